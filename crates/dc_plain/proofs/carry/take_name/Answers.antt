use Rattle.std.proofs.Common.{rules}
use Rattle.dc_plain.proofs.carry.take_name.Goals as goal

pub returns-then-leading_to-eq0-clause-rows : goal.returns-then-leading_to-eq0-clause-rows
returns-then-leading_to-eq0-clause-rows c = search rules
