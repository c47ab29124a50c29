use Rattle.std.proofs.Common.{rules}
use Rattle.dc_plain.proofs.plain.PlainTree.move_name.Goals as goal

pub returns-in_err-refuse-clause-found : goal.returns-in_err-refuse-clause-found
returns-in_err-refuse-clause-found c = search rules
