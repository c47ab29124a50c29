-- No sleeper at the gate is forgotten.
use Rattle.std.specs.Prelude.{◌≡◌, ℕ, ◌+◌, ◌<◌, ◌≤◌, ◌⊎◌, ◌==◌, ◌&&◌, not, Bool, true, false, List, [], ◌∷◌}
use Rattle.std.specs.List.{count_by}
use Rattle.dc_sleepers.specs.declared.gate.TheConstants.{WRAP}
use Rattle.dc_sleepers.specs.declared.gate.Place.{Place}
use Rattle.dc_sleepers.specs.declared.gate.Place.TheVariants.{Out, Asking, Asked, Trying, Told, Counted, Asleep, Holding, Given, Leaving, Gone, Calling, Raised, Looked, WakingOne, WakingAll}
use Rattle.dc_sleepers.specs.declared.gate.Act.{Act}
use Rattle.dc_sleepers.specs.declared.gate.Act.TheVariants.{Wait}
use Rattle.dc_sleepers.specs.declared.gate.Event.{Event}
use Rattle.dc_sleepers.specs.declared.gate.Thread.{Thread}
use Rattle.dc_sleepers.specs.Gates.{State, opening, thread_of, after, AllCan, after_all, is_asleep}

abbrev pub is_holding : Place → Bool
is_holding Holding = true
is_holding _ = false

-- it gave the lock back, or needed none, and its call is over; it raises the calls or wakes still
abbrev pub owes_a_call : Place → Bool
owes_a_call Given = true
owes_a_call Leaving = true
owes_a_call Gone = true
owes_a_call Calling = true
owes_a_call Raised = true
owes_a_call Looked = true
owes_a_call WakingOne = true
owes_a_call WakingAll = true
owes_a_call _ = false

-- it is counted and awake, and won't sleep before it has asked or tried: or there is a call that it hasn't read
abbrev pub awake_at : Place → Bool → Bool → Bool
awake_at Counted counted same = counted
awake_at Asking counted same = counted
awake_at Asked counted same = counted
awake_at Trying counted same = counted
awake_at Told counted same = counted && not same
awake_at _ counted same = false

abbrev pub is_awake : ℕ → Thread → Bool
is_awake calls x = awake_at x.place x.is_counted (x.seen == calls)

-- it has a step to take
abbrev pub can_go_on : Place → Bool
can_go_on Out = false
can_go_on Asleep = false
can_go_on _ = true

-- how many threads are like this, and how many stand at such a place
abbrev pub how_many : State → (Thread → Bool) → ℕ
how_many s test = count_by test s.threads

abbrev pub number : State → (Place → Bool) → ℕ
number s test = how_many s (λ x. test x.place)

-- if a thread sleeps, somebody sees to it
abbrev pub Remembers : State → Type 0
Remembers s = 0 < number s is_asleep → (s.is_held ≡ true) ⊎ ((0 < number s owes_a_call) ⊎ (0 < how_many s (is_awake s.calls)))

-- if every thread sleeps or makes no call, none sleeps
abbrev pub RestsAwake : State → Type 0
RestsAwake s = number s can_go_on ≡ 0 → number s is_asleep ≡ 0

-- a wait comes before there were as many calls since the read as would look like none
abbrev pub IsInTime : State → Thread → Act → Type 0
IsInTime s x Wait = s.calls < x.seen + WRAP
IsInTime s x _ = Unit {0}

abbrev pub AreInTime : State → List Event → Type 0
AreInTime s [] = Unit {0}
AreInTime s (e ∷ es) = IsInTime s (thread_of s e.thread) e.act × AreInTime (after s e) es

-- so it is after every list of events of any number of threads, if each wait is in time
pub record NoSleeperAtTheGateIsForgotten : Type 0 where
  pub remembered : (threads : ℕ) (es : List Event) → AllCan (opening threads) es → AreInTime (opening threads) es → Remembers (after_all (opening threads) es)
  pub one_holder : (threads : ℕ) (es : List Event) → AllCan (opening threads) es → AreInTime (opening threads) es → number (after_all (opening threads) es) is_holding ≤ 1
  pub at_rest : (threads : ℕ) (es : List Event) → AllCan (opening threads) es → AreInTime (opening threads) es → RestsAwake (after_all (opening threads) es)
