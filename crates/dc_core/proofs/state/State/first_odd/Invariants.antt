use Rattle.std.proofs.Common.{ℕ, ◌<◌}
use Rattle.dc_core.specs.Refusals.{IsOdd}
use Rattle.dc_core.specs.Shown.{state_of}
use Rattle.dc_core.proofs.state.State.first_odd.Given as goal

abbrev pub invariant-loop-row : goal.invariant-loop-row
invariant-loop-row l = (r : ℕ) → r < l.row → IsOdd (state_of l.self) r → ⊥
