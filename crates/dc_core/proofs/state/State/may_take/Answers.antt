use Rattle.std.proofs.Common.{arith}
use Rattle.std.proofs.lemmas.Grind.{common_steps}
use Rattle.dc_core.proofs.state.State.may_take.Goals as goal

pub returns : goal.returns
returns c = grind (arith, common_steps)
