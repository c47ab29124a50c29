use Rattle.std.proofs.Common.{rules}
use Rattle.dc_lang.proofs.reply.stamped_from.Goals as goal

pub returns : goal.returns
returns c = search rules
