use Rattle.std.proofs.Common.{◌≡◌, Some, ap, sym, ◌∙◌, map}
use Rattle.std.specs.Ordering.{nat_cmp}
use Rattle.std.specs.FinMap.Entries.{find as lookup}
use Rattle.dc_plain.specs.Trees.{inode_of}
use Rattle.dc_plain.specs.Trees.Inode.{Symbolic}
use Rattle.dc_plain.specs.Plain.{tree_of, node_shown, inode_shown}
use Rattle.dc_plain.proofs.Texts.{link_text}
use Rattle.dc_plain.proofs.plain.PlainTree.text.Goals as goal

pub known-requires : goal.known-requires
known-requires c =
    let found = c.in_ok-text.ensures ∙ ap (λ is. lookup nat_cmp c.args.number (map inode_shown is)) c.deref.ensures.value in
    let told : inode_of (tree_of c.self.inside) c.args.number ≡ Some (Symbolic c.in-Symbolic.text.items) = sym found ∙ ap (λ n. Some (node_shown n)) c.in-Symbolic.is in
    rw c.deref-in-Symbolic.ensures.value (link_text (tree_of c.self.inside) c.args.number c.in-Symbolic.text.items c.self.invariant.well told)
