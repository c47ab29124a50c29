-- What each step at the lock keeps.
use Rattle.std.specs.Prelude.{◌≡◌, ℕ, ◌+◌, ◌-◌, ◌<◌, ◌≤◌, ◌==◌, ◌&&◌, not, leb, Bool, true, false, cond}
use Rattle.dc_sleepers.specs.declared.lock.Place.{Place}
use Rattle.dc_sleepers.specs.declared.lock.Place.TheVariants.{Trying, Drawing, Counted, Choosing, Parking, Yielding, Asleep, Kept, Awake, Got, Serving, Served}
use Rattle.dc_sleepers.specs.declared.lock.Thread.{Thread}
use Rattle.dc_sleepers.specs.Locks.{State, thread_of, is_asleep, is_kept}
use Rattle.dc_sleepers.specs.LockLaw.{how_many, number, is_holding, owes_a_wake, wakes_all, owes_a_try}

-- it sleeps, or is about to, or has done so
abbrev pub is_counted : Place → Bool
is_counted Counted = true
is_counted Choosing = true
is_counted Parking = true
is_counted Yielding = true
is_counted Asleep = true
is_counted Kept = true
is_counted Awake = true
is_counted _ = false

-- it is counted as late
abbrev pub is_late_at : Place → Bool → Bool
is_late_at Drawing has = true
is_late_at Serving has = false
is_late_at _ has = has

abbrev pub is_late : Thread → Bool
is_late x = is_late_at x.place x.has_ticket

-- a thread has its ticket until that is served
abbrev pub may_have_ticket : Place → Bool
may_have_ticket Trying = true
may_have_ticket Counted = true
may_have_ticket Choosing = true
may_have_ticket Parking = true
may_have_ticket Yielding = true
may_have_ticket Asleep = true
may_have_ticket Kept = true
may_have_ticket Awake = true
may_have_ticket Got = true
may_have_ticket Serving = true
may_have_ticket _ = false

abbrev pub is_drawing : Place → Bool
is_drawing Drawing = true
is_drawing _ = false

abbrev pub is_leaving : Place → Bool
is_leaving Got = true
is_leaving Serving = true
is_leaving _ = false

abbrev pub is_passing : Place → Bool
is_passing Served = true
is_passing _ = false

-- a late thread goes before it
abbrev pub yields : Place → Bool
yields Yielding = true
yields Kept = true
yields _ = false

abbrev pub has_limit : Place → Bool
has_limit Choosing = true
has_limit p = yields p

-- it has this ticket, or one after it
abbrev pub is_from : ℕ → Thread → Bool
is_from n x = x.has_ticket && leb n x.ticket

-- it sleeps until the lock is free, though it has a ticket
abbrev pub is_late_asleep : Thread → Bool
is_late_asleep x = is_asleep x.place && x.has_ticket

-- it sleeps, though one more ticket was served
abbrev pub is_behind : ℕ → Thread → Bool
is_behind served x = is_kept x.place && not (x.seen == served)

-- what is so of each thread
pub record IsFine (served drawn : ℕ) (x : Thread) : Type 0 where
  pub slept : x.has_ticket ≡ true → x.has_slept ≡ true
  pub holds : x.has_ticket ≡ true → may_have_ticket x.place ≡ true
  pub draws : is_drawing x.place ≡ true → x.has_slept ≡ true
  pub leaves : is_leaving x.place ≡ true → x.has_ticket ≡ true
  pub own : has_limit x.place ≡ true → x.has_ticket ≡ true → x.limit ≡ x.ticket
  pub known : has_limit x.place ≡ true → x.limit ≤ drawn
  pub kept : yields x.place ≡ true → (x.seen ≤ served) × (x.seen < x.limit)

-- without the sleepers of the lock
pub record IsFair (s : State) : Type 0 where
  pub counted : s.waiting ≡ number s is_counted + how_many s is_late
  pub holder : number s is_holding ≡ cond s.is_held 1 0
  -- as many tickets are out as threads have one, and no two are the same
  pub out : s.served + how_many s (λ x. x.has_ticket) ≡ s.drawn
  pub few : (n : ℕ) → how_many s (is_from n) ≤ s.drawn - n
  -- whoever was served wakes those that it kept off
  pub behind : 0 < how_many s (is_behind s.served) → 0 < number s is_passing
  pub each : (t : ℕ) → IsFine s.served s.drawn (thread_of s t)

-- one that sleeps until the lock is free is seen to, and if it has a ticket, all are woken
pub record IsSound (s : State) : Type 0 where
  pub fair : IsFair s
  pub seen_to : 0 < number s is_asleep → 0 < cond s.is_held 1 0 + (number s owes_a_wake + how_many s (owes_a_try s.served))
  pub all : 0 < how_many s is_late_asleep → 0 < cond s.is_held 1 0 + how_many s (wakes_all s.served)
