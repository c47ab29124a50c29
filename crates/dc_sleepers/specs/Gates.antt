-- The gate of gigbewu.h as plain data, and what each step of a thread makes of it.
use Rattle.std.specs.Prelude.{◌≡◌, ℕ, ◌+◌, ◌-◌, ◌%◌, ◌<◌, ◌==◌, ◌&&◌, ◌||◌, not, Bool, true, false, if◌then◌else◌, List, [], ◌∷◌, length, get_or, set, map, replicate}
use Rattle.dc_sleepers.specs.declared.gate.TheConstants.{WRAP}
use Rattle.dc_sleepers.specs.declared.gate.Place.{Place}
use Rattle.dc_sleepers.specs.declared.gate.Place.TheVariants.{Out, Asking, Asked, Trying, Told, Counted, Asleep, Holding, Given, Leaving, Gone, Calling, Raised, Looked, WakingOne, WakingAll}
use Rattle.dc_sleepers.specs.declared.gate.Act.{Act}
use Rattle.dc_sleepers.specs.declared.gate.Act.TheVariants.{Come, ComeBare, ReadServed, ReadTickets, Try, Answer, AskAgain, Leave, Count, TakeTicket, ReadCalls, Wait, WakeUp, Give, CountOut, Serve, ReadSleepers, Raise, LookServed, LookTickets, Wake, WakeNobody, WakeAll}
use Rattle.dc_sleepers.specs.declared.gate.Event.{Event}
use Rattle.dc_sleepers.specs.declared.gate.Thread.{Thread}

pub record State : Type 0 where
  pub is_held : Bool
  pub sleepers : ℕ
  pub calls : ℕ
  pub tickets : ℕ
  pub served : ℕ
  pub threads : List Thread

abbrev pub idle : Thread
idle = record { place = Out; is_counted = false; seen = 0; has_ticket = false; ticket = 0; next = 0 }

-- a free lock, and threads that make no call
abbrev pub opening : ℕ → State
opening threads = record { is_held = false; sleepers = 0; calls = 0; tickets = 0; served = 0; threads = replicate threads idle }

abbrev pub thread_of : State → ℕ → Thread
thread_of s t = get_or s.threads t idle

-- with another thread here
abbrev pub with_thread : State → ℕ → Thread → State
with_thread s t x = record s { threads = set s.threads t x }

-- the thread at another place
abbrev pub moved : Thread → Place → Thread
moved x p = record x { place = p }

abbrev pub placed : State → ℕ → Place → State
placed s t p = with_thread s t (moved (thread_of s t) p)

-- by what it has read: no ticket is out, or its own is next
abbrev pub may_try : ℕ → Thread → Bool
may_try tickets x = (tickets == x.next) || (x.has_ticket && (x.ticket == x.next))

abbrev pub is_asleep : Place → Bool
is_asleep Asleep = true
is_asleep _ = false

-- it sleeps, and has read another number of calls
abbrev pub sleeps_behind : ℕ → Thread → Bool
sleeps_behind calls x = is_asleep x.place && not (x.seen == calls)

-- woken, if it does
abbrev pub roused : ℕ → Thread → Thread
roused calls x = (if sleeps_behind calls x then moved x Counted else x)

abbrev pub roused_all : State → State
roused_all s = record s { threads = map (roused s.calls) s.threads }

-- such a thread can take this step
abbrev pub Begins : State → Thread → Act → Type 0
Begins s x Come = x.place ≡ Out
Begins s x ComeBare = x.place ≡ Out
Begins s x ReadServed = x.place ≡ Asking
Begins s x ReadTickets = x.place ≡ Asked
Begins s x Try = x.place ≡ Trying
Begins s x Answer = x.place ≡ Trying
Begins s x AskAgain = x.place ≡ Told
Begins s x Leave = (x.place ≡ Told) × (x.is_counted ≡ false)
Begins s x Count = x.place ≡ Told
Begins s x TakeTicket = (x.place ≡ Counted) × ((x.is_counted ≡ true) × (x.has_ticket ≡ false))
Begins s x ReadCalls = x.place ≡ Counted
Begins s x Wait = (x.place ≡ Told) × (x.is_counted ≡ true)
Begins s x WakeUp = x.place ≡ Asleep
Begins s x Give = x.place ≡ Holding
Begins s x CountOut = x.place ≡ Given
Begins s x Serve = x.place ≡ Leaving
Begins s x ReadSleepers = x.place ≡ Gone
Begins s x Raise = x.place ≡ Calling
Begins s x LookServed = x.place ≡ Raised
Begins s x LookTickets = x.place ≡ Looked
Begins s x (Wake sleeper) = ((thread_of s sleeper).place ≡ Asleep) × (x.place ≡ WakingOne)
Begins s x WakeNobody = ((t : ℕ) → sleeps_behind s.calls (thread_of s t) ≡ false) × (x.place ≡ WakingOne)
Begins s x WakeAll = x.place ≡ WakingAll

-- what the step of a thread makes of the gate; how far the calls are apart shows only in their last 32 bits
abbrev pub done : State → ℕ → Thread → Act → State
done s t x Come = with_thread s t (moved x Asking)
done s t x ComeBare = with_thread s t (moved x Trying)
done s t x ReadServed = with_thread s t (record x { place = Asked; next = s.served })
done s t x ReadTickets = with_thread s t (moved x (if may_try s.tickets x then Trying else Told))
done s t x Try = (if s.is_held then with_thread s t (moved x Told) else record (with_thread s t (moved x Holding)) { is_held = true })
done s t x Answer = with_thread s t (moved x Given)
done s t x AskAgain = with_thread s t (moved x Asking)
done s t x Leave = with_thread s t (moved x Out)
done s t x Count = record (with_thread s t (record x { place = Counted; is_counted = true })) { sleepers = s.sleepers + (if x.is_counted then 0 else 1) }
done s t x TakeTicket = record (with_thread s t (record x { place = Counted; has_ticket = true; ticket = s.tickets })) { tickets = s.tickets + 1 }
done s t x ReadCalls = with_thread s t (record x { place = Asking; seen = s.calls })
done s t x Wait = with_thread s t (moved x (if s.calls % WRAP == x.seen % WRAP then Asleep else Counted))
done s t x WakeUp = with_thread s t (moved x Counted)
done s t x Give = record (with_thread s t (moved x Given)) { is_held = false }
done s t x CountOut = record (with_thread s t (record x { place = Leaving; is_counted = false })) { sleepers = s.sleepers - (if x.is_counted then 1 else 0) }
done s t x Serve = record (with_thread s t (record x { place = Gone; has_ticket = false })) { served = s.served + (if x.has_ticket then 1 else 0) }
done s t x ReadSleepers = with_thread s t (moved x (if s.sleepers == 0 then Out else Calling))
done s t x Raise = record (with_thread s t (moved x Raised)) { calls = s.calls + 1 }
done s t x LookServed = with_thread s t (record x { place = Looked; next = s.served })
done s t x LookTickets = with_thread s t (moved x (if s.tickets == x.next then WakingOne else WakingAll))
done s t x (Wake sleeper) = placed (with_thread s t (moved x Out)) sleeper Counted
done s t x WakeNobody = with_thread s t (moved x Out)
done s t x WakeAll = roused_all (with_thread s t (moved x Out))

-- the thread is there, and can take this step
abbrev pub Can : State → Event → Type 0
Can s e = (e.thread < length s.threads) × Begins s (thread_of s e.thread) e.act

abbrev pub after : State → Event → State
after s e = done s e.thread (thread_of s e.thread) e.act

-- all of the events can happen, one after the other
abbrev pub AllCan : State → List Event → Type 0
AllCan s [] = Unit {0}
AllCan s (e ∷ es) = Can s e × AllCan (after s e) es

abbrev pub after_all : State → List Event → State
after_all s [] = s
after_all s (e ∷ es) = after_all (after s e) es
