use Rattle.std.proofs.Common.{◌≡◌, length}
use Rattle.dc_plain.specs.Operations.{is_beneath}
use Rattle.dc_plain.proofs.plain.PlainTree.is_beneath.Given as goal

abbrev pub invariant-climb : goal.invariant-climb
invariant-climb l = is_beneath l.left l.self.tree l.at l.number ≡ is_beneath (length l.self.tree.inodes) l.self.tree l.dir l.number

abbrev pub decreases-climb : goal.decreases-climb
decreases-climb l = l.left
