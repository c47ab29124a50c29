-- The lock as plain data, and what each step of a thread makes of it.
use Rattle.std.specs.Prelude.{◌≡◌, ℕ, ◌+◌, ◌-◌, ◌<◌, ◌==◌, nat_lt, Bool, true, false, if◌then◌else◌, List, [], ◌∷◌, length, get_or, set, map, replicate}
use Rattle.dc_sleepers.specs.declared.lock.Place.{Place}
use Rattle.dc_sleepers.specs.declared.lock.Place.TheVariants.{Out, Trying, Drawing, Counted, Choosing, Parking, Yielding, Asleep, Kept, Awake, Got, Serving, Served, Holding, Freed, Looking, Looked, WakingOne, WakingAll}
use Rattle.dc_sleepers.specs.declared.lock.Act.{Act}
use Rattle.dc_sleepers.specs.declared.lock.Act.TheVariants.{Come, TryOnce, Try, CountLate, Draw, CountIn, ReadDrawn, ReadServed, Insist, Park, Yield, WakeUp, WakeKeptUp, CountOut, CountLateOut, Serve, WakeKept, Give, Read, LookDrawn, LookServed, Wake, WakeNobody, WakeAll}
use Rattle.dc_sleepers.specs.declared.lock.Event.{Event}
use Rattle.dc_sleepers.specs.declared.lock.Thread.{Thread}

pub record State : Type 0 where
  pub is_held : Bool
  pub waiting : ℕ
  pub drawn : ℕ
  pub served : ℕ
  pub threads : List Thread

abbrev pub idle : Thread
idle = record { place = Out; has_slept = false; has_ticket = false; ticket = 0; limit = 0; seen = 0 }

-- a free lock, and threads that don't want it
abbrev pub opening : ℕ → State
opening threads = record { is_held = false; waiting = 0; drawn = 0; served = 0; threads = replicate threads idle }

abbrev pub thread_of : State → ℕ → Thread
thread_of s t = get_or s.threads t idle

-- with another thread here
abbrev pub with_thread : State → ℕ → Thread → State
with_thread s t x = record s { threads = set s.threads t x }

-- the thread at another place
abbrev pub moved : Thread → Place → Thread
moved x p = record x { place = p }

abbrev pub placed : State → ℕ → Place → State
placed s t p = with_thread s t (moved (thread_of s t) p)

abbrev pub is_asleep : Place → Bool
is_asleep Asleep = true
is_asleep _ = false

abbrev pub is_kept : Place → Bool
is_kept Kept = true
is_kept _ = false

-- woken, if it stands at such a place
abbrev pub roused : (Place → Bool) → Thread → Thread
roused test x = (if test x.place then moved x Awake else x)

abbrev pub roused_all : (Place → Bool) → State → State
roused_all test s = record s { threads = map (roused test) s.threads }

-- such a thread can take this step
abbrev pub Begins : State → Thread → Act → Type 0
Begins s x Come = x.place ≡ Out
Begins s x TryOnce = x.place ≡ Out
Begins s x Try = x.place ≡ Trying
Begins s x CountLate = (x.place ≡ Trying) × ((x.has_slept ≡ true) × (x.has_ticket ≡ false))
Begins s x Draw = x.place ≡ Drawing
Begins s x CountIn = x.place ≡ Trying
Begins s x ReadDrawn = x.place ≡ Counted
Begins s x ReadServed = x.place ≡ Choosing
Begins s x Insist = (x.place ≡ Choosing) × (x.has_slept ≡ true)
Begins s x Park = x.place ≡ Parking
Begins s x Yield = x.place ≡ Yielding
Begins s x WakeUp = x.place ≡ Asleep
Begins s x WakeKeptUp = x.place ≡ Kept
Begins s x CountOut = x.place ≡ Awake
Begins s x CountLateOut = x.place ≡ Got
Begins s x Serve = x.place ≡ Serving
Begins s x WakeKept = x.place ≡ Served
Begins s x Give = x.place ≡ Holding
Begins s x Read = x.place ≡ Freed
Begins s x LookDrawn = x.place ≡ Looking
Begins s x LookServed = x.place ≡ Looked
Begins s x (Wake sleeper) = ((thread_of s sleeper).place ≡ Asleep) × (x.place ≡ WakingOne)
Begins s x WakeNobody = ((t : ℕ) → is_asleep (thread_of s t).place ≡ false) × (x.place ≡ WakingOne)
Begins s x WakeAll = x.place ≡ WakingAll

-- what the step of a thread makes of the lock
abbrev pub done : State → ℕ → Thread → Act → State
done s t x Come = with_thread s t (record x { place = Trying; has_slept = false })
done s t x TryOnce = (if s.is_held then with_thread s t (moved x Out) else record (with_thread s t (moved x Holding)) { is_held = true })
done s t x Try = (if s.is_held then with_thread s t (moved x Trying) else record (with_thread s t (moved x (if x.has_ticket then Got else Holding))) { is_held = true })
done s t x CountLate = record (with_thread s t (moved x Drawing)) { waiting = s.waiting + 1 }
done s t x Draw = record (with_thread s t (record x { place = Trying; has_ticket = true; ticket = s.drawn })) { drawn = s.drawn + 1 }
done s t x CountIn = record (with_thread s t (moved x Counted)) { waiting = s.waiting + 1 }
done s t x ReadDrawn = with_thread s t (record x { place = Choosing; limit = if x.has_ticket then x.ticket else s.drawn })
done s t x ReadServed = with_thread s t (record x { place = if nat_lt s.served x.limit then Yielding else Parking; seen = s.served })
done s t x Insist = with_thread s t (moved x Parking)
done s t x Park = with_thread s t (moved x (if s.is_held then Asleep else Awake))
done s t x Yield = with_thread s t (moved x (if x.seen == s.served then Kept else Awake))
done s t x WakeUp = with_thread s t (moved x Awake)
done s t x WakeKeptUp = with_thread s t (moved x Awake)
done s t x CountOut = record (with_thread s t (record x { place = Trying; has_slept = true })) { waiting = s.waiting - 1 }
done s t x CountLateOut = record (with_thread s t (moved x Serving)) { waiting = s.waiting - 1 }
done s t x Serve = record (with_thread s t (record x { place = Served; has_ticket = false })) { served = s.served + 1 }
done s t x WakeKept = roused_all is_kept (with_thread s t (moved x Holding))
done s t x Give = record (with_thread s t (moved x Freed)) { is_held = false }
done s t x Read = with_thread s t (moved x (if s.waiting == 0 then Out else Looking))
done s t x LookDrawn = with_thread s t (record x { place = Looked; limit = s.drawn })
done s t x LookServed = with_thread s t (moved x (if x.limit == s.served then WakingOne else WakingAll))
done s t x (Wake sleeper) = placed (with_thread s t (moved x Out)) sleeper Awake
done s t x WakeNobody = with_thread s t (moved x Out)
done s t x WakeAll = roused_all is_asleep (with_thread s t (moved x Out))

-- the thread is there, and can take this step
abbrev pub Can : State → Event → Type 0
Can s e = (e.thread < length s.threads) × Begins s (thread_of s e.thread) e.act

abbrev pub after : State → Event → State
after s e = done s e.thread (thread_of s e.thread) e.act

-- all of the events can happen, one after the other
abbrev pub AllCan : State → List Event → Type 0
AllCan s [] = Unit {0}
AllCan s (e ∷ es) = Can s e × AllCan (after s e) es

abbrev pub after_all : State → List Event → State
after_all s [] = s
after_all s (e ∷ es) = after_all (after s e) es
