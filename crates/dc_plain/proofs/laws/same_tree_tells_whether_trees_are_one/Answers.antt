use Rattle.dc_plain.proofs.Living.{same-decides}
use Rattle.dc_plain.proofs.laws.same_tree_tells_whether_trees_are_one.Goals as goal

pub returns : goal.returns
returns c = same-decides
