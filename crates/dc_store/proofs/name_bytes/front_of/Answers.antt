use Rattle.std.proofs.Common.{◌≡◌, ◌++◌, length, drop, replicate, ap, ◌∙◌}
use Rattle.dc_store.specs.Fronts.{first_bytes}
use Rattle.dc_store.proofs.Fronts.{front_is, part_first, whole_first}
use Rattle.dc_store.proofs.name_bytes.front_of.Goals as goal
use Rattle.dc_store.proofs.name_bytes.front_of.Goals.{then-name-lt-FRONT, else-name-lt-FRONT}

pub returns : goal.returns
returns c =
    let name = c.args.name.now in
    let first : c.if-name-lt-FRONT.first ≡ first_bytes c.args.name.now = elim c.if-name-lt-FRONT.branch [
      | then-name-lt-FRONT w ↦ w.first-is ∙ ap (λ bytes. bytes ++ drop (length name) (replicate 8 0)) w.copy_from_slice.ensures.after ∙ part_first name w.if-name-lt-FRONT.true
      | else-name-lt-FRONT w ↦ w.first-is ∙ w.copy_from_slice-else-name-lt-FRONT.ensures.after ∙ whole_first name w.if-name-lt-FRONT.false
    ] in
    front_is name (λ i. (c.type_inv.name i).fits) c.from_be_bytes.result c.if-name-lt-FRONT.first first c.from_be_bytes.ensures
