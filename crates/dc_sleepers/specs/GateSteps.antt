-- Which events the machine of the gate does, and what comes of a step.
use Rattle.std.specs.Prelude.{◌≡◌, ℕ, ◌+◌, ◌<◌, ◌^◌, Bool}
use Rattle.dc_sleepers.specs.declared.gate.Place.{Place}
use Rattle.dc_sleepers.specs.declared.gate.Act.{Act}
use Rattle.dc_sleepers.specs.declared.gate.Act.TheVariants.{TakeTicket, Raise}
use Rattle.dc_sleepers.specs.declared.gate.Event.{Event}
use Rattle.dc_sleepers.specs.declared.gate.Thread.{Thread}
use Rattle.dc_sleepers.specs.Gates.{State, thread_of, with_thread, placed, Begins, done}
use Rattle.dc_sleepers.specs.GateLaw.{IsInTime}
use Rattle.dc_sleepers.specs.Outcomes.{Outcome}

-- no number passes the last one
abbrev pub HasRoom : State → Act → Type 0
HasRoom s TakeTicket = s.tickets + 1 < 2 ^ 64
HasRoom s Raise = s.calls + 1 < 2 ^ 64
HasRoom s _ = Unit {0}

abbrev pub FitsAt : State → Thread → Act → Type 0
FitsAt s x act = HasRoom s act × IsInTime s x act

-- a number has room, and a wait is in time
abbrev pub Fits : State → Event → Type 0
Fits s e = FitsAt s (thread_of s e.thread) e.act

abbrev pub Does : State → ℕ → Act → Bool → State → Type 0
Does s t act result new = Outcome result (Begins s (thread_of s t) act × FitsAt s (thread_of s t) act) s (done s t (thread_of s t) act) new

abbrev pub Goes : State → ℕ → Place → Place → Bool → State → Type 0
Goes s t from to result new = Outcome result ((thread_of s t).place ≡ from) s (placed s t to) new

abbrev pub Puts : State → ℕ → Place → Thread → Bool → State → Type 0
Puts s t from y result new = Outcome result ((thread_of s t).place ≡ from) s (with_thread s t y) new
