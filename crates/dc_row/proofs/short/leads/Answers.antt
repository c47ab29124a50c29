use Rattle.std.proofs.Common.{◌≡◌, ◌/◌, ◌%◌, length, ap, sym, subst, ◌∙◌, arith}
use Rattle.std.proofs.lemmas.Bool.{eq-eqb, eqb-true}
use Rattle.dc_names.specs.Words.{AreBytes}
use Rattle.dc_plain.specs.Facts.{label_bytes}
use Rattle.dc_plain.specs.KeysShown.{key_shown}
use Rattle.dc_row.specs.Decoding.{target_by}
use Rattle.dc_row.specs.Spelling.{fields, head_of}
use Rattle.dc_row.proofs.Entries.{tells_by_head, told_head}
use Rattle.dc_row.proofs.short.leads.Goals as goal

pub returns : goal.returns
returns c words h text other =
    let key = key_shown c.args.key in let bytes = c.bytes.ensures in
    let kind = c.args.head / 16777216 % 256 in let t = target_by kind c.args.value in
    let is = c.is_target.ensures.some c.if-not-is_target.false in
    let size : length c.bytes.result.now ≡ length (label_bytes key.label) = ap length bytes in
    let head : c.head_of.result ≡ head_of (fields 1 kind key.number c.args.value (label_bytes key.label)) = omega arith in (
      λ told. tells_by_head key t h text is.0 is.1 (sym (c.has_room.ensures.spelling t (sym is.0) is.2) ∙ c.if-not-has_room.false)
          (subst AreBytes bytes c.head_of.ensures.bytes) c.if-number-key.false (eqb-true _ _ told ∙ head),
      λ tells. eq-eqb _ _ (told_head h tells other ∙ sym head),
    )
