use Rattle.std.proofs.Common.{◌≢◌, ◌∙◌, ap, ◌/◌, ℕ, get_or, rules, arith, subst}
use Rattle.dc_row.specs.Decoding.{EndsAt}
use Rattle.dc_row.specs.Narrow.{widened}
use Rattle.dc_row.proofs.Firsts.{wide_word}
use Rattle.dc_row.proofs.Texts.{narrow_ends, text_size, text_there, text_ends, wide_text}
use Rattle.dc_row.proofs.entry.is_text.Goals as goal

pub returns : goal.returns
returns c =
    let words = c.args.words.now in let len = get_or words 1 0 / 256 in
    let some : get_or words 2 0 ≢ 0 = search rules in (
      λ yes. text_there {len = len} c.no_piece_is_longer.ensures
          (wide_text words c.requires.size.1 (λ i. (c.type_inv.words i).fits) (omega arith) (omega arith) (omega arith) some (omega arith) (c.ends_at.ensures.0 yes)),
      λ spells. c.ends_at.ensures.1
          (narrow_ends words len (subst (EndsAt (widened words)) (text_size spells.2 ∙ ap (λ (w : ℕ). w / 256) (wide_word words 1)) (text_ends spells.2))),
    )
