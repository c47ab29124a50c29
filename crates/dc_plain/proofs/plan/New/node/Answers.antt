use Rattle.std.proofs.Common.{rules}
use Rattle.dc_plain.proofs.plan.New.node.Goals as goal

pub returns : goal.returns
returns c = search rules
