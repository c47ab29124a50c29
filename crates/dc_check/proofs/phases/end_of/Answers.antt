use Rattle.std.proofs.Common.{rules}
use Rattle.dc_check.proofs.phases.end_of.Goals as goal

pub returns-else-mark : goal.returns-else-mark
returns-else-mark c = search rules
