use Rattle.std.proofs.Common.{rules}
use Rattle.dc_c.proofs.changes.gb_try_unlink.Goals as goal

pub returns : goal.returns
returns c = search rules
