-- The words of a row, written one after the other.
use Rattle.std.proofs.Common.{◌≡◌, ◌≢◌, ℕ, zero, suc, ◌+◌, ◌-◌, ◌*◌, ◌<◌, ◌≤◌, ◌==◌, ◌∷◌, List, replicate, length, get_or, set, take, ap, false, arith, refl, sym, ◌∙◌, below_more, get_or-set_same, get_or-set_other, inl, inr}
use Rattle.std.proofs.lemmas.Bool.{cases_lt}
use Rattle.std.proofs.lemmas.Grind.{common_steps}
use Rattle.std.proofs.lemmas.List.{drop_all}
use Rattle.dc_names.specs.Words.{word_of}
use Rattle.dc_row.proofs.Packed.{get_or-zeros}
use Rattle.dc_names.specs.declared.limits.TheConstants.{ROW_WORDS}
use Rattle.dc_row.specs.Spelling.{Fields, IsSpelled, head_of, word_at, text_word}

pub word_at-text : (f : Fields) (i : ℕ) → 4 ≤ i → word_at f i ≡ text_word f.text (i - 4)
word_at-text f i late =
    let one : (i == 1) ≡ false = grind (arith, common_steps) in
    let two : (i == 2) ≡ false = grind (arith, common_steps) in
    let three : (i == 3) ≡ false = grind (arith, common_steps) in
    rw (one, two, three) refl

-- no byte of the text stands past its end
pub word_past : (text : List ℕ) (k : ℕ) → length text ≤ 8 * k → text_word text k ≡ 0
unfolding word_of
word_past text k past = ap (λ (xs : List ℕ). word_of (take 8 xs)) (drop_all (8 * k) text past)

-- head, number, value and text are those of the fields
pub spelled_by : (words : List ℕ) (f : Fields) → get_or words 1 0 ≡ head_of f → get_or words 2 0 ≡ f.number → get_or words 3 0 ≡ f.value → ((j : ℕ) → 4 ≤ j → j < ROW_WORDS → get_or words j 0 ≡ text_word f.text (j - 4)) → IsSpelled words f
spelled_by words f head number value text zero some few = absurd (omega arith)
spelled_by words f head number value text (suc zero) some few = head
spelled_by words f head number value text (suc (suc zero)) some few = number
spelled_by words f head number value text (suc (suc (suc zero))) some few = value
spelled_by words f head number value text (suc (suc (suc (suc j)))) some few = text (suc (suc (suc (suc j)))) (omega arith) few ∙ sym (word_at-text f (suc (suc (suc (suc j)))) (omega arith))

pub one_more : (ws : List ℕ) (i v : ℕ) (f : Fields) → 4 ≤ i → i < length ws → v ≡ text_word f.text (i - 4) → ((j : ℕ) → 0 < j → j < i → get_or ws j 0 ≡ word_at f j) → (j : ℕ) → 0 < j → j < i + 1 → get_or (set ws i v) j 0 ≡ word_at f j
one_more ws i v f late within is before j pos lt =
    below_more (λ k. 0 < k → get_or (set ws i v) k 0 ≡ word_at f k) i
    (λ k h pos. let ne : k ≢ i = omega arith in rw get_or-set_other (before k pos h))
    (λ pos. rw get_or-set_same (is ∙ sym (word_at-text f i late)))
    j lt pos

-- the first four words of a row before its text is written
pub spells_head : (head number value : ℕ) (rest : List ℕ) (f : Fields) → head ≡ head_of f → number ≡ f.number → value ≡ f.value → (j : ℕ) → 0 < j → j < 4 → get_or (0 ∷ head ∷ number ∷ value ∷ rest) j 0 ≡ word_at f j
spells_head head number value rest f h n v zero some few = absurd (omega arith)
spells_head head number value rest f h n v (suc zero) some few = h
spells_head head number value rest f h n v (suc (suc zero)) some few = n
spells_head head number value rest f h n v (suc (suc (suc zero))) some few = v
spells_head head number value rest f h n v (suc (suc (suc (suc j)))) some few = absurd (omega arith)

-- and those behind them
pub zeros_behind : (a b c d many j : ℕ) → 4 ≤ j → get_or (a ∷ b ∷ c ∷ d ∷ replicate many 0) j 0 ≡ 0
zeros_behind a b c d many zero late = absurd (omega arith)
zeros_behind a b c d many (suc zero) late = absurd (omega arith)
zeros_behind a b c d many (suc (suc zero)) late = absurd (omega arith)
zeros_behind a b c d many (suc (suc (suc zero))) late = absurd (omega arith)
zeros_behind a b c d many (suc (suc (suc (suc j)))) late = get_or-zeros many j

-- a row's words before i are written, and all others zero
pub record WritesSome (f : Fields) (words : List ℕ) (i : ℕ) : Type 0 where
  pub size : length words ≡ ROW_WORDS
  pub count : get_or words 0 0 ≡ 0
  pub before : (j : ℕ) → 0 < j → j < i → get_or words j 0 ≡ word_at f j
  pub rest : (j : ℕ) → i ≤ j → get_or words j 0 ≡ 0

pub writes_head : (head number value : ℕ) (f : Fields) → head ≡ head_of f → number ≡ f.number → value ≡ f.value → WritesSome f (0 ∷ head ∷ number ∷ value ∷ replicate 32 0) 4
writes_head head number value f h n v = record {
  size = refl;
  count = refl;
  before = spells_head head number value (replicate 32 0) f h n v;
  rest = zeros_behind 0 head number value 32;
}

pub writes_more : {words : List ℕ} {i v : ℕ} {f : Fields} → 4 ≤ i → i < ROW_WORDS → v ≡ text_word f.text (i - 4) → WritesSome f words i → WritesSome f (set words i v) (i + 1)
writes_more {words} {i} {v} {f} late few is w = record {
  size = grind (arith, common_steps, w.size);
  count = grind (arith, common_steps, w.count);
  before = one_more words i v f late (omega (arith, w.size)) is w.before;
  rest = λ j past. let ne : j ≢ i = omega arith in rw get_or-set_other (w.rest j (omega arith));
}

pub writes_all : {words : List ℕ} {i : ℕ} {f : Fields} → 4 ≤ i → length f.text ≤ 8 * (i - 4) → WritesSome f words i → IsSpelled words f
writes_all {i = i} {f = f} late end w j some few = elim (cases_lt j i) [
  | inl l ↦ w.before j some l
  | inr past ↦ w.rest j past ∙ sym (word_at-text f j (omega arith) ∙ word_past f.text (j - 4) (omega arith))
]
