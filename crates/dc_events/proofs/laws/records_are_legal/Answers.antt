use Rattle.dc_events.proofs.Legal.{legal}
use Rattle.dc_events.proofs.laws.records_are_legal.Goals as goal

pub returns : goal.returns
returns c = legal c.same_tree_tells_whether_trees_are_one.ensures
