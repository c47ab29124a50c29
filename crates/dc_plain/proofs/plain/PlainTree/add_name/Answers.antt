use Rattle.std.proofs.Common.{◌∙◌, refl}
use Rattle.std.specs.FinMap.Entries.{put}
use Rattle.dc_plain.specs.Trees.{spot_cmp}
use Rattle.dc_plain.proofs.Sound.{sound_after}
use Rattle.dc_plain.proofs.plain.PlainTree.add_name.Goals as goal

pub invariant_of-self-2 : goal.invariant_of-self-2
invariant_of-self-2 c =
    let view = c.self.view_is in
    let name = c.in_ok-name.ensures.items ∙ c.bytes.ensures.bytes in
    let entries = c.in_ok-insert_entry.ensures.ok ∙ (λ i. put spot_cmp (record { dir = c.args.spot.dir; name = name i }) c.args.number ((view i).tree.entries)) in
    sound_after c.parts_are_names_or_dots.ensures c.self.inside _ _ _ c.self.invariant view c.requires.made (λ i. record { entries = entries i; inodes = (view i).tree.inodes; next = (view i).tree.next }) refl
