use Rattle.std.proofs.Common.{ap, sym, ◌∙◌, position}
use Rattle.dc_plain.specs.KeysShown.{key_shown}
use Rattle.dc_index.specs.Slots.{is_slot_of}
use Rattle.dc_index.specs.OwnKeys.{slot_shown}
use Rattle.dc_index.proofs.Places.{position-map}
use Rattle.dc_index.proofs.Chosen.{row_found, row_missing}
use Rattle.dc_index.proofs.index.Index.row_of_hashed.Goals as goal

pub returns-in_err-place-clause-row : goal.returns-in_err-place-clause-row
returns-in_err-place-clause-row c = let test = is_slot_of (key_shown c.args.key.now.key) in
    let at = ap (position test) (sym c.slots_in.ensures.slots) ∙ position-map slot_shown test c.slots_in.result.now ∙ sym c.in_err-place.ensures in
    rw c.from_residual.ensures (row_missing c.slots_in.ensures.valid (key_shown c.args.key.now.key) c.bucket-bucket.result c.bucket-bucket.ensures.bucket c.bucket-bucket.ensures.within at)

pub returns-clause-row : goal.returns-clause-row
returns-clause-row c = let test = is_slot_of (key_shown c.args.key.now.key) in
    let at = ap (position test) (sym c.slots_in.ensures.slots) ∙ position-map slot_shown test c.slots_in.result.now ∙ sym c.in_ok-place.ensures in
    row_found c.slots_in.ensures.valid (key_shown c.args.key.now.key) c.bucket-bucket.result c.bucket-bucket.ensures.bucket c.bucket-bucket.ensures.within c.in_ok-place.place at
