-- Which events the machine of the lock does, and what comes of a step.
use Rattle.std.specs.Prelude.{◌≡◌, ℕ, ◌+◌, ◌<◌, ◌^◌, Bool}
use Rattle.dc_sleepers.specs.declared.lock.Place.{Place}
use Rattle.dc_sleepers.specs.declared.lock.Act.{Act}
use Rattle.dc_sleepers.specs.declared.lock.Act.TheVariants.{CountLate, CountIn, Draw}
use Rattle.dc_sleepers.specs.declared.lock.Thread.{Thread}
use Rattle.dc_sleepers.specs.Locks.{State, thread_of, with_thread, placed, Begins, done}
use Rattle.dc_sleepers.specs.Outcomes.{Outcome}

-- no number passes the last one
abbrev pub HasRoom : State → Act → Type 0
HasRoom s CountLate = s.waiting + 1 < 2 ^ 64
HasRoom s CountIn = s.waiting + 1 < 2 ^ 64
HasRoom s Draw = s.drawn + 1 < 2 ^ 64
HasRoom s _ = Unit {0}

abbrev pub Does : State → ℕ → Act → Bool → State → Type 0
Does s t act result new = Outcome result (Begins s (thread_of s t) act × HasRoom s act) s (done s t (thread_of s t) act) new

abbrev pub Goes : State → ℕ → Place → Place → Bool → State → Type 0
Goes s t from to result new = Outcome result ((thread_of s t).place ≡ from) s (placed s t to) new

abbrev pub Puts : State → ℕ → Place → Thread → Bool → State → Type 0
Puts s t from y result new = Outcome result ((thread_of s t).place ≡ from) s (with_thread s t y) new
