use Rattle.std.proofs.Common.{rules}
use Rattle.dc_lang.proofs.calls.call.Goals as goal

pub returns-in-Llook : goal.returns-in-Llook
returns-in-Llook c = search rules

pub returns-in-Rename : goal.returns-in-Rename
returns-in-Rename c = search rules

pub returns-in-Rename2 : goal.returns-in-Rename2
returns-in-Rename2 c = search rules
