use Rattle.std.proofs.Common.{rules}
use Rattle.dc_names.proofs.name.is_name.Goals as goal

pub returns-then-not-is_dot : goal.returns-then-not-is_dot
returns-then-not-is_dot c = search rules
