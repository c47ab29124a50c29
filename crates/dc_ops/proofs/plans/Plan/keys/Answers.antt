use Rattle.std.proofs.Common.{rules}
use Rattle.dc_ops.proofs.plans.Plan.keys.Goals as goal

pub returns-in-Move : goal.returns-in-Move
returns-in-Move c = search rules

pub returns-in-Swap : goal.returns-in-Swap
returns-in-Swap c = search rules
