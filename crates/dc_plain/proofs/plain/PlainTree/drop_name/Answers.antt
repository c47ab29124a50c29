use Rattle.std.proofs.Common.{◌∙◌, refl}
use Rattle.dc_plain.specs.Effects.{without_entry}
use Rattle.dc_plain.proofs.Sound.{sound_after}
use Rattle.dc_plain.proofs.plain.PlainTree.drop_name.Goals as goal

pub invariant_of-self : goal.invariant_of-self
invariant_of-self c =
    let view = c.self.view_is in
    sound_after c.parts_are_names_or_dots.ensures c.self.inside _ _ _ c.self.invariant view c.requires
    (c.take_name.ensures.rows c.self.inside.next ∙ (λ i. without_entry ((view i).tree) c.args.spot.dir (c.args.spot.name.bytes.now) c.args.number)) refl
