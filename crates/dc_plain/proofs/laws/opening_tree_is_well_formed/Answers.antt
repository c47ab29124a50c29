use Rattle.dc_plain.proofs.Opening.{opening}
use Rattle.dc_plain.proofs.laws.opening_tree_is_well_formed.Goals as goal

pub returns : goal.returns
returns c = opening
