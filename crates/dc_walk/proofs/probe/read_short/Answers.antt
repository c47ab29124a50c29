use Rattle.std.proofs.Common.{◌≡◌, ℕ, suc, ◌+◌, ◌*◌, ◌<◌, ◌↔◌, [], ◌∷◌, ◌++◌, bit_or, bit_xor, length, get_or, refl, ap₂, sym, ◌∙◌, subst, arith, length-append}
use Rattle.dc_names.specs.declared.limits.TheConstants.{ROW_WORDS}
use Rattle.dc_table.specs.Passes.{view}
use Rattle.std.proofs.lemmas.Nat.{le_or_l, le_or_r}
use Rattle.std.specs.Int.Bits.{or_zero_l}
use Rattle.dc_row.specs.declared.short.TheConstants.{SHORT_WORDS}
use Rattle.dc_walk.specs.declared.probe.TheConstants.{BLOCK_WORDS}
use Rattle.dc_walk.proofs.Probed.{can_go_on, goes_on}
use Rattle.dc_walk.proofs.Shorts.{can_read_on, differ_zero, first_more, past_more, reads_more, reads_to, reads_value}
use Rattle.dc_walk.proofs.probe.read_short.Goals as goal

pub read_word-value-requires : goal.read_word-value-requires
read_word-value-requires c = let r = c.requires.on.reading in let t = c.args.noted.top in record { can = (c.requires.on.walker, can_go_on r.before c.args.noted.row t.count (t.head ∷ t.number ∷ []) r.read r.early 3 refl (omega arith)) }

pub read_word-word-requires : goal.read_word-word-requires
read_word-word-requires c = record { can = can_read_on c.requires.on (4 + c.loop-i.i) c.loop-i.invariant refl (omega arith) }

pub read_word-past-requires : goal.read_word-past-requires
read_word-past-requires c = record { can = can_read_on c.requires.on (4 + SHORT_WORDS + BLOCK_WORDS * c.loop-block.block + c.loop-i-2.i) c.loop-i-2.invariant (omega arith) (omega arith) }

pub loop-i-init : goal.loop-i-init
loop-i-init c = let e = c.read_word-value.ensures in reads_value c.requires.on c.args.text.now e.same c.read_word-value.result e.view refl

pub loop-i-preserved : goal.loop-i-preserved
loop-i-preserved c = let e = c.read_word-word.ensures in let w = c.read_word-word.result in let text = c.args.text.now in let i = c.loop-i.i in let before = c.loop-i.differ in
    reads_more (i + 1) refl c.loop-i.invariant e.same w e.view (λ rest size so. first_more text rest w (omega arith) so
    (subst (λ (k : ℕ). (bit_or before (bit_xor w (get_or text i 0)) ≡ 0) ↔ ((before ≡ 0) × (w ≡ get_or text k 0))) (sym size) (differ_zero before w (get_or text i 0))))

pub loop-i-2-preserved : goal.loop-i-2-preserved
loop-i-2-preserved c = let e = c.read_word-past.ensures in let w = c.read_word-past.result in let before = c.loop-i-2.differ in let left = le_or_l before w in let right = le_or_r before w in
    reads_more (SHORT_WORDS + BLOCK_WORDS * c.loop-block.block + (c.loop-i-2.i + 1)) (omega arith) c.loop-i-2.invariant e.same w e.view
    (λ rest size so. past_more c.args.text.now rest w (omega arith) so (λ q. (omega arith, omega arith), λ q. ap₂ bit_or q.0 q.1 ∙ or_zero_l 0))

pub loop-block-preserved : goal.loop-block-preserved
loop-block-preserved c = reads_to (SHORT_WORDS + BLOCK_WORDS * (c.loop-block.block + 1)) (omega (arith, c.loop-i-2-test.false, c.loop-i-2.auto.i-end)) c.loop-i-2.invariant

pub returns-then-differ-ne0-clause-left : goal.returns-then-differ-ne0-clause-left
returns-then-differ-ne0-clause-left c = (
  c.if-brief.true,
  λ v h. let s = c.loop-i.invariant.read v h in let w = c.read_word-word.result in let value = c.read_word-value.result in let t = c.args.noted.top in
      let more = length-append s.rest (w ∷ []) in let size = s.size in
      let few : suc (suc (suc (length (s.rest ++ w ∷ [])))) + 1 < ROW_WORDS = omega (arith, c.loop-i-test.true) in record {
        count = t.count;
        words = t.head ∷ t.number ∷ value ∷ (s.rest ++ w ∷ []);
        few = few;
        read = goes_on v c.args.noted.row t.count (t.head ∷ t.number ∷ value ∷ s.rest) s.read (view c.read_word-word.new.pass) w c.read_word-word.ensures.view;
      },
)
