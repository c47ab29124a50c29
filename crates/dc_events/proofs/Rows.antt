-- The three writes of the lock's holder, by name: a row is shut, a word of a shut row is written, a row is opened.
use Rattle.std.proofs.Common.{◌≡◌, ℕ, zero, suc, ◌+◌, ◌-◌, ◌%◌, ◌<◌, ◌≤◌, true, List, ◌∷◌, get_or, set, sym, refl, ap, ◌∙◌, subst, inl, inr, arith, get_or-set_same, get_or-set_other}
use Rattle.std.specs.Prelude.{Option, None, slice_index}
use mathlib.Core.Option.{some}
use lib.ListN.{get_elem?}
use Rattle.dc_plain.specs.Facts.{Fact}
use Rattle.dc_plain.specs.Requests.{Request}
use Rattle.dc_row.specs.Spelling.{Spells, fields_of}
use Rattle.dc_names.specs.declared.limits.TheConstants.{ROW_WORDS}
use Rattle.dc_events.specs.Views.{View}
use Rattle.dc_events.specs.Standing.{tree_of}
use Rattle.dc_events.specs.Rows.{most, base_of, count, words_from, row_words, Tells}
use Rattle.dc_events.specs.Rule.{Rule}
use Rattle.dc_events.specs.Effects.{wrote}
use Rattle.dc_events.proofs.Words.{words_from_same}
use Rattle.dc_events.proofs.Holder.{writes}

-- the count isn't looked at
pub any_count : (a b : ℕ) (words : List ℕ) (fact : Option Fact) → Spells (a ∷ words) fact → Spells (b ∷ words) fact
any_count a b words fact s = record { size = s.size; allowed = s.allowed; bytes = s.bytes; spelled = spelled }
  where
    spelled : (i : ℕ) → 0 < i → i < ROW_WORDS → slice_index (b ∷ words) i ≡ Rattle.dc_row.specs.Spelling.word_at (fields_of fact) i
    spelled zero low high = absurd (omega arith)
    spelled (suc i) low high = s.spelled (suc i) low high

pub words_after_count : (words : List ℕ) (row x : ℕ) → row_words (set words (base_of row) x) row ≡ get_or (set words (base_of row) x) (base_of row) 0 ∷ words_from words (suc (base_of row)) (ROW_WORDS - 1)
words_after_count words row x = ap (λ xs. get_or (set words (base_of row) x) (base_of row) 0 ∷ xs)
    (words_from_same words (set words (base_of row) x) (suc (base_of row)) (ROW_WORDS - 1) (λ j low high. get_or-set_other words (base_of row) j x 0 (λ e. omega arith)))

module _ {limit rows : ℕ} {words : List ℕ} {views : List View} {hist : List Request} (R : Rule limit rows words views hist) (id : ℕ) (v : View) (at : get_elem? views id ≡ some v) (has : v.hold.holds ≡ true) (row : ℕ) (inside : row < rows) where
  pub shuts : count words row % 2 ≡ 0 → count words row < most → Rule limit rows (set words (base_of row) (count words row + 1)) (set views id (wrote v (base_of row) (count words row + 1))) hist
  shuts even low = let x : ℕ = count words row + 1 in let wide = R.wide in let now : count (set words (base_of row) x) row ≡ x = get_or-set_same words (base_of row) x 0 (omega arith) in
      writes R id v at has row 0 (base_of row) x inside (omega arith) (omega arith) (inl (refl, omega arith)) record { below = omega arith; told = λ e. absurd (omega arith); spent = λ full. absurd (omega arith) }

  pub rewrites : (i x : ℕ) → 0 < i → i < ROW_WORDS → count words row % 2 ≡ 1 → Rule limit rows (set words (base_of row + i) x) (set views id (wrote v (base_of row + i) x)) hist
  rewrites i x low high odd = let k : ℕ = base_of row + i in let same : count (set words k x) row ≡ count words row = get_or-set_other words k (base_of row) x 0 (λ e. omega arith) in let b = (R.row row inside).below in
      writes R id v at has row i k x inside high refl (inr (low, odd)) record { below = omega arith; told = λ e. absurd (omega arith); spent = λ full. absurd (omega arith) }

  -- the words spell a row that is true in the tree now; a row whose last count this is spells none
  pub opens : count words row % 2 ≡ 1 → (told : Tells (tree_of limit hist) (row_words words row)) → (count words row + 1 ≡ most → Spells (row_words words row) None) → count words row + 1 ≤ most
      → Rule limit rows (set words (base_of row) (count words row + 1)) (set views id (wrote v (base_of row) (count words row + 1))) hist
  opens odd told spent low = let x : ℕ = count words row + 1 in let wide = R.wide in let words' : List ℕ = set words (base_of row) x in let now : count words' row ≡ x = get_or-set_same words (base_of row) x 0 (omega arith) in
      let spells : Spells (row_words words' row) told.fact = subst (λ ws. Spells ws told.fact) (sym (words_after_count words row x)) (any_count (count words row) (count words' row) (words_from words (suc (base_of row)) (ROW_WORDS - 1)) told.fact told.spells) in
      writes R id v at has row 0 (base_of row) x inside (omega arith) (omega arith) (inl (refl, omega arith)) record {
        below = omega arith;
        told = λ e. record { fact = told.fact; spells = spells; holds = told.holds };
        spent = λ full. subst (λ ws. Spells ws None) (sym (words_after_count words row x)) (any_count (count words row) (count words' row) (words_from words (suc (base_of row)) (ROW_WORDS - 1)) None (spent (sym now ∙ full)));
      }
