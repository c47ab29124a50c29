use Rattle.std.proofs.Common.{rules}
use Rattle.dc_lang.proofs.read.session_in.Goals as goal

pub returns-in-49 : goal.returns-in-49
returns-in-49 c = search rules
