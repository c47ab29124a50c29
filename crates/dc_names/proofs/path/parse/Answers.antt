use Rattle.std.proofs.Common.{rules}
use Rattle.dc_names.proofs.path.parse.Goals as goal

pub invariant_of-result : goal.invariant_of-result
invariant_of-result c = search rules
