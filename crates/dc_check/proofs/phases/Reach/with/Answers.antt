use Rattle.std.proofs.Common.{rules}
use Rattle.dc_check.proofs.phases.Reach.with.Goals as goal

pub returns : goal.returns
returns c = search rules
