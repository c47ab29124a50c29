use Rattle.std.proofs.Common.{◌∙◌, ap, refl}
use Rattle.dc_plain.specs.Machines.{Machine}
use Rattle.dc_plain.specs.Plain.{tree_in}
use Rattle.dc_plain.specs.Spots.{spot_shown}
use Rattle.dc_plain.proofs.RowSteps.{moved_over, way_is_free}
use Rattle.dc_plain.proofs.Sound.{sound_after}
use Rattle.dc_plain.proofs.plain.PlainTree.relocate.Goals as goal

pub insert_entry-requires : goal.insert_entry-requires
insert_entry-requires c =
    let room = ap (λ es. tree_in es c.self.inside.inodes.items c.self.inside.next) c.reserve.ensures.items ∙ ap (λ (m : Machine). m.tree) c.self.view_is in
    way_is_free (spot_shown c.args.from) (spot_shown c.args.to) c.args.there c.args.self.now.tree _ _ (c.make_way.ensures.rows c.self.inside.next) room _ (c.in_ok-name.ensures.items ∙ c.bytes.ensures.bytes) c.requires.leads.0

pub invariant_of-self-2 : goal.invariant_of-self-2
invariant_of-self-2 c =
    let room = ap (λ es. tree_in es c.self.inside.inodes.items c.self.inside.next) c.reserve.ensures.items ∙ ap (λ (m : Machine). m.tree) c.self.view_is in
    let moved = moved_over (spot_shown c.args.from) (spot_shown c.args.to) c.args.there c.args.self.now.tree _ _ (c.make_way.ensures.rows c.self.inside.next) room _ (c.in_ok-name.ensures.items ∙ c.bytes.ensures.bytes)
    c.args.moved _ (rw c.unwrap.ensures at c.insert_entry.ensures.ok) in
    sound_after c.parts_are_names_or_dots.ensures c.self.inside _ _ _ c.self.invariant c.self.view_is c.requires.made moved refl
