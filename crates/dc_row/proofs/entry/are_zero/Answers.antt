use Rattle.std.proofs.Common.{◌≡◌, ℕ, inl, inr, get_or, bit_or, sym, subst, arith, ap₂, ◌∙◌}
use Rattle.std.proofs.lemmas.Bool.{cases_eq}
use Rattle.std.proofs.lemmas.Nat.{le_or_l, le_or_r}
use Rattle.std.specs.Int.Bits.{or_zero_l}
use Rattle.dc_row.proofs.entry.are_zero.Goals as goal

pub loop-i-preserved : goal.loop-i-preserved
loop-i-preserved c = let words = c.args.words.now in let i = c.loop-i.i in let any = c.loop-i.any in let w = get_or words i 0 in
    let left = le_or_l any w in let right = le_or_r any w in (
      λ none. let before : any ≡ 0 = omega arith in let here : w ≡ 0 = omega arith in
          λ j some few. elim (cases_eq j i) [ inl same ↦ subst (λ (k : ℕ). get_or words k 0 ≡ 0) (sym same) here | inr other ↦ c.loop-i.invariant.0 before j some (omega arith) ],
      λ all. let before = c.loop-i.invariant.1 (λ j some few. all j some (omega arith)) in let here = all i (let started = c.loop-i.auto.i in omega arith) (omega arith) in ap₂ bit_or before here ∙ or_zero_l 0,
    )
