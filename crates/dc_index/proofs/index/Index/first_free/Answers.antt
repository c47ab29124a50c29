use Rattle.std.proofs.Common.{ap, sym, ◌∙◌, position, refl}
use Rattle.dc_index.specs.Slots.{is_free}
use Rattle.dc_index.specs.OwnKeys.{slot_shown}
use Rattle.dc_index.proofs.Places.{position-map}
use Rattle.dc_index.proofs.index.Index.first_free.Goals as goal

pub returns-in_err-place-clause-row : goal.returns-in_err-place-clause-row
returns-in_err-place-clause-row c = let at = ap (position is_free) (sym c.slots_in.ensures.slots) ∙ position-map slot_shown is_free c.slots_in.result.now ∙ sym c.in_err-place.ensures in
    c.from_residual.ensures ∙ rw at refl

pub returns-clause-row : goal.returns-clause-row
returns-clause-row c = let at = ap (position is_free) (sym c.slots_in.ensures.slots) ∙ position-map slot_shown is_free c.slots_in.result.now ∙ sym c.in_ok-place.ensures in
    rw at refl
