use Rattle.std.proofs.Common.{rules}
use Rattle.dc_names.proofs.path.PathText.is_absolute.Goals as goal

pub returns-in-Some-eq47 : goal.returns-in-Some-eq47
returns-in-Some-eq47 c = search rules

pub returns-in_default : goal.returns-in_default
returns-in_default c = search rules
