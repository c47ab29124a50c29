use Rattle.std.proofs.Common.{rules}
use Rattle.dc_lang.proofs.input.base_after.Goals as goal

pub returns-in-Cd-Found : goal.returns-in-Cd-Found
returns-in-Cd-Found c = search rules
