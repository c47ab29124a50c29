use Rattle.std.proofs.Common.{ℕ, ◌<◌}
use Rattle.dc_core.specs.Refusals.{IsTouched}
use Rattle.dc_core.specs.Shown.{state_of}
use Rattle.dc_plain.specs.Requests.{request_of}
use Rattle.dc_core.proofs.state.State.first_touched.Given as goal

abbrev pub invariant-loop-row : goal.invariant-loop-row
invariant-loop-row l = (r : ℕ) → r < l.row → IsTouched (state_of l.self) (request_of l.call) r → ⊥
