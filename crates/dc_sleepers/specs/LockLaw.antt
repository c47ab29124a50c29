-- No sleeper of the lock is forgotten.
use Rattle.std.specs.Prelude.{◌≡◌, ℕ, ◌<◌, ◌≤◌, ◌⊎◌, ◌==◌, ◌&&◌, not, Bool, true, false, List}
use Rattle.std.specs.List.{count_by}
use Rattle.dc_sleepers.specs.declared.lock.Place.{Place}
use Rattle.dc_sleepers.specs.declared.lock.Place.TheVariants.{Out, Trying, Drawing, Counted, Choosing, Parking, Yielding, Asleep, Kept, Awake, Got, Serving, Served, Holding, Freed, Looking, Looked, WakingOne, WakingAll}
use Rattle.dc_sleepers.specs.declared.lock.Event.{Event}
use Rattle.dc_sleepers.specs.declared.lock.Thread.{Thread}
use Rattle.dc_sleepers.specs.Locks.{State, opening, AllCan, after_all, is_asleep, is_kept}

abbrev pub is_holding : Place → Bool
is_holding Got = true
is_holding Serving = true
is_holding Served = true
is_holding Holding = true
is_holding _ = false

-- it gave the lock back, and its wake is still before it
abbrev pub owes_a_wake : Place → Bool
owes_a_wake Freed = true
owes_a_wake Looking = true
owes_a_wake Looked = true
owes_a_wake WakingOne = true
owes_a_wake WakingAll = true
owes_a_wake _ = false

-- and it wakes all, if a ticket is out as long as it looks
abbrev pub wakes_all_at : Place → Bool → Bool
wakes_all_at Freed same = true
wakes_all_at Looking same = true
wakes_all_at Looked same = not same
wakes_all_at WakingAll same = true
wakes_all_at _ same = false

abbrev pub wakes_all : ℕ → Thread → Bool
wakes_all served x = wakes_all_at x.place (x.limit == served)

-- it was woken, or not put to sleep, and its try or its look at the lock is still before it
abbrev pub owes_a_try_at : Place → Bool → Bool → Bool
owes_a_try_at Trying slept same = slept
owes_a_try_at Drawing slept same = slept
owes_a_try_at Counted slept same = slept
owes_a_try_at Choosing slept same = slept
owes_a_try_at Parking slept same = slept
owes_a_try_at Yielding slept same = slept && not same
owes_a_try_at Awake slept same = true
owes_a_try_at _ slept same = false

abbrev pub owes_a_try : ℕ → Thread → Bool
owes_a_try served x = owes_a_try_at x.place x.has_slept (x.seen == served)

-- and it has a ticket
abbrev pub is_late_and_tries : ℕ → Thread → Bool
is_late_and_tries served x = x.has_ticket && owes_a_try served x

-- it has a step to take
abbrev pub can_go_on : Place → Bool
can_go_on Out = false
can_go_on Asleep = false
can_go_on Kept = false
can_go_on _ = true

-- how many threads are like this, and how many stand at such a place
abbrev pub how_many : State → (Thread → Bool) → ℕ
how_many s test = count_by test s.threads

abbrev pub number : State → (Place → Bool) → ℕ
number s test = how_many s (λ x. test x.place)

-- if a thread sleeps until the lock is free, or until one more ticket is served, somebody sees to it
pub record Remembers (s : State) : Type 0 where
  pub asleep : 0 < number s is_asleep → (s.is_held ≡ true) ⊎ ((0 < number s owes_a_wake) ⊎ (0 < how_many s (owes_a_try s.served)))
  pub kept : 0 < number s is_kept → (s.is_held ≡ true) ⊎ ((0 < how_many s (wakes_all s.served)) ⊎ (0 < how_many s (is_late_and_tries s.served)))

-- if every thread sleeps or doesn't want the lock, none sleeps
abbrev pub RestsAwake : State → Type 0
RestsAwake s = number s can_go_on ≡ 0 → (number s is_asleep ≡ 0) × (number s is_kept ≡ 0)

-- so it is after every list of events of any number of threads
pub record NoSleeperOfTheLockIsForgotten : Type 0 where
  pub remembered : (threads : ℕ) (es : List Event) → AllCan (opening threads) es → Remembers (after_all (opening threads) es)
  pub one_holder : (threads : ℕ) (es : List Event) → AllCan (opening threads) es → number (after_all (opening threads) es) is_holding ≤ 1
  pub at_rest : (threads : ℕ) (es : List Event) → AllCan (opening threads) es → RestsAwake (after_all (opening threads) es)
