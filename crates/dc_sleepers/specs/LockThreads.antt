-- What a step at the lock makes of the thread that takes it, by what it reads: so a thread that takes its steps on words of its own can be held to them.
use Rattle.std.specs.Prelude.{◌≡◌, ◌≢◌, ℕ, ◌<◌, ◌⊎◌, ◌==◌, nat_lt, true, false, if◌then◌else◌, cond, length}
use Rattle.dc_sleepers.specs.declared.lock.Place.TheVariants.{Out, Trying, Drawing, Counted, Choosing, Parking, Yielding, Asleep, Kept, Awake, Got, Serving, Served, Holding, Freed, Looking, Looked, WakingOne, WakingAll}
use Rattle.dc_sleepers.specs.declared.lock.Act.{Act}
use Rattle.dc_sleepers.specs.declared.lock.Act.TheVariants.{Come, TryOnce, Try, CountLate, Draw, CountIn, ReadDrawn, ReadServed, Insist, Park, Yield, WakeUp, WakeKeptUp, CountOut, CountLateOut, Serve, WakeKept, Give, Read, LookDrawn, LookServed, Wake, WakeNobody, WakeAll}
use Rattle.dc_sleepers.specs.declared.lock.Thread.{Thread}
use Rattle.dc_sleepers.specs.Locks.{State, thread_of, moved, is_asleep, is_kept, Begins, done}

-- a thread can take this step, as far as it can tell by itself
abbrev pub May : Thread → Act → Type 0
May x Come = x.place ≡ Out
May x TryOnce = x.place ≡ Out
May x Try = x.place ≡ Trying
May x CountLate = (x.place ≡ Trying) × ((x.has_slept ≡ true) × (x.has_ticket ≡ false))
May x Draw = x.place ≡ Drawing
May x CountIn = x.place ≡ Trying
May x ReadDrawn = x.place ≡ Counted
May x ReadServed = x.place ≡ Choosing
May x Insist = (x.place ≡ Choosing) × (x.has_slept ≡ true)
May x Park = x.place ≡ Parking
May x Yield = x.place ≡ Yielding
May x WakeUp = x.place ≡ Asleep
May x WakeKeptUp = x.place ≡ Kept
May x CountOut = x.place ≡ Awake
May x CountLateOut = x.place ≡ Got
May x Serve = x.place ≡ Serving
May x WakeKept = x.place ≡ Served
May x Give = x.place ≡ Holding
May x Read = x.place ≡ Freed
May x LookDrawn = x.place ≡ Looking
May x LookServed = x.place ≡ Looked
May x (Wake sleeper) = x.place ≡ WakingOne
May x WakeNobody = x.place ≡ WakingOne
May x WakeAll = x.place ≡ WakingAll

-- the number that a step reads, or 0
abbrev pub read : State → Act → ℕ
read s TryOnce = cond s.is_held 1 0
read s Try = cond s.is_held 1 0
read s Draw = s.drawn
read s ReadDrawn = s.drawn
read s ReadServed = s.served
read s Park = cond s.is_held 1 0
read s Yield = s.served
read s Read = s.waiting
read s LookDrawn = s.drawn
read s LookServed = s.served
read s _ = 0

-- what the step makes of the thread, if it reads this number
abbrev pub next : ℕ → Thread → Act → Thread
next n x Come = record x { place = Trying; has_slept = false }
next n x TryOnce = moved x (if n == 0 then Holding else Out)
next n x Try = moved x (if n == 0 then (if x.has_ticket then Got else Holding) else Trying)
next n x CountLate = moved x Drawing
next n x Draw = record x { place = Trying; has_ticket = true; ticket = n }
next n x CountIn = moved x Counted
next n x ReadDrawn = record x { place = Choosing; limit = if x.has_ticket then x.ticket else n }
next n x ReadServed = record x { place = if nat_lt n x.limit then Yielding else Parking; seen = n }
next n x Insist = moved x Parking
next n x Park = moved x (if n == 0 then Awake else Asleep)
next n x Yield = moved x (if x.seen == n then Kept else Awake)
next n x WakeUp = moved x Awake
next n x WakeKeptUp = moved x Awake
next n x CountOut = record x { place = Trying; has_slept = true }
next n x CountLateOut = moved x Serving
next n x Serve = record x { place = Served; has_ticket = false }
next n x WakeKept = moved x Holding
next n x Give = moved x Freed
next n x Read = moved x (if n == 0 then Out else Looking)
next n x LookDrawn = record x { place = Looked; limit = n }
next n x LookServed = moved x (if x.limit == n then WakingOne else WakingAll)
next n x (Wake sleeper) = moved x Out
next n x WakeNobody = moved x Out
next n x WakeAll = moved x Out

-- it slept, and was woken or woke up
abbrev pub SleepsOn : Thread → Thread → Type 0
SleepsOn x y = (y ≡ x) ⊎ (((is_asleep x.place ≡ true) ⊎ (is_kept x.place ≡ true)) × (y ≡ moved x Awake))

-- so the machine steps: the thread whose step it is may take it by itself, and becomes what it reads; each other stays, or is woken
pub record StepsByThread : Type 0 where
  pub may : (s : State) (t : ℕ) (act : Act) → Begins s (thread_of s t) act → May (thread_of s t) act
  pub own : (s : State) (t : ℕ) (act : Act) → t < length s.threads → Begins s (thread_of s t) act → thread_of (done s t (thread_of s t) act) t ≡ next (read s act) (thread_of s t) act
  pub others : (s : State) (t u : ℕ) (act : Act) → Begins s (thread_of s t) act → u ≢ t → SleepsOn (thread_of s u) (thread_of (done s t (thread_of s t) act) u)
