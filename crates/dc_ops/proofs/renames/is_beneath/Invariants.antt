use Rattle.std.proofs.Common.{◌≡◌, IsTrue, length}
use Rattle.dc_plain.specs.Operations.{is_beneath}
use Rattle.dc_plain.specs.Trees.{is_live_directory}
use Rattle.dc_ops.proofs.renames.is_beneath.Given as goal

abbrev pub invariant-up : goal.invariant-up
invariant-up g l =
    let t = g.S.Store.tree l.store in
    record {
      held : IsTrue (is_live_directory t l.at);
      same : is_beneath l.left t l.at l.number ≡ is_beneath (length t.inodes) t l.dir l.number;
    }

abbrev pub decreases-up : goal.decreases-up
decreases-up g l = l.left
