use Rattle.dc_plain.proofs.Living.{alters-decides}
use Rattle.dc_plain.proofs.laws.alters_tells_whether_trees_differ.Goals as goal

pub returns : goal.returns
returns c = alters-decides
