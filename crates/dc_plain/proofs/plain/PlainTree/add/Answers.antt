use Rattle.std.proofs.Common.{◌+◌, map, ap, ◌∙◌, refl}
use Rattle.std.specs.Ordering.{nat_cmp}
use Rattle.std.specs.FinMap.Entries.{find as lookup}
use Rattle.std.specs.FinMap.Entries.{put}
use Rattle.dc_plain.specs.Plain.{tree_of, inode_shown}
use Rattle.dc_plain.specs.Plans.{new_shown}
use Rattle.dc_plain.specs.Trees.{spot_cmp}
use Rattle.dc_plain.proofs.Made.{unused_number}
use Rattle.dc_plain.proofs.Sound.{sound_after}
use Rattle.dc_plain.proofs.plain.PlainTree.add.Goals as goal

pub insert_inode-requires : goal.insert_inode-requires
insert_inode-requires c = ap (λ is. lookup nat_cmp c.self.inside.next (map inode_shown is)) c.reserve.ensures.items ∙ unused_number (tree_of c.self.inside) c.self.invariant.well

pub invariant_of-self-2 : goal.invariant_of-self-2
invariant_of-self-2 c =
    let view = c.self.view_is in
    let name = c.in_ok-name.ensures.items ∙ c.bytes.ensures.bytes in
    let entries = c.in_ok-insert_entry.ensures.ok ∙ (λ i. put spot_cmp (record { dir = c.args.spot.dir; name = name i }) ((view i).tree.next) ((view i).tree.entries)) in
    let inodes = (rw c.unwrap.ensures at c.insert_inode.ensures.ok) ∙ (λ i. put nat_cmp c.self.inside.next (c.in_ok-node.ensures i) (map inode_shown (c.reserve.ensures.items i))) in
    sound_after c.parts_are_names_or_dots.ensures c.self.inside _ _ _ c.self.invariant view c.requires.made
    (λ i. record { entries = entries i; inodes = (inodes ∙ (λ j. put nat_cmp ((view j).tree.next) (new_shown c.args.new) ((view j).tree.inodes))) i; next = (view i).tree.next + 1 }) refl
