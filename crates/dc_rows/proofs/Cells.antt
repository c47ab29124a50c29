-- The words of a row after a write.
use Rattle.std.proofs.Common.{◌≡◌, ◌≢◌, ℕ, zero, suc, ◌+◌, ◌<◌, ◌≤◌, List, ◌∷◌, length, set, get_or, refl, sym, ap, ap₂, ◌∙◌, arith, get_or-set_other, get_or-set_same, Bool, true, false, if◌then◌else◌, Option, None}
use Rattle.dc_plain.specs.Facts.{Fact}
use Rattle.dc_row.specs.Spelling.{Spells}
use Rattle.dc_names.specs.declared.limits.TheConstants.{ROW_WORDS}
use Rattle.dc_row.specs.declared.TheConstants.{EMPTY_ROW}
use Rattle.dc_events.specs.Rows.{base_of, count, words_from, row_words}
use Rattle.dc_table.specs.Rows.{cell}

words_from_set : (words : List ℕ) (k n i x : ℕ) → ((j : ℕ) → k ≤ j → j < k + n → i ≢ j) → words_from (set words i x) k n ≡ words_from words k n
words_from_set words k zero i x apart = refl
words_from_set words k (suc n) i x apart = ap₂ (λ y ys. y ∷ ys) (get_or-set_other words i k x 0 (λ e. apart k (omega arith) (omega arith) (sym e))) (words_from_set words (suc k) n i x (λ j low high. apart j (omega arith) (omega arith)))

-- clock and lock lie before all rows
pub row_low : (words : List ℕ) (i x row : ℕ) → i < 2 → row_words (set words i x) row ≡ row_words words row
row_low words i x row low = words_from_set words (base_of row) ROW_WORDS i x (λ j a b. λ e. omega arith)

from_at : (words : List ℕ) (k n i : ℕ) → i < n → get_or (words_from words k n) i 0 ≡ get_or words (k + i) 0
from_at words k zero i few = absurd (omega arith)
from_at words k (suc n) zero few = let e : k ≡ k + 0 = omega arith in ap (λ j. get_or words j 0) e
from_at words k (suc n) (suc i) few = let e : suc k + i ≡ k + suc i = omega arith in from_at words (suc k) n i (omega arith) ∙ ap (λ j. get_or words j 0) e

-- a word of a row as an item of its words
pub at_cell : (words : List ℕ) (row i : ℕ) → i < ROW_WORDS → get_or (row_words words row) i 0 ≡ cell words row i
at_cell words row i few = from_at words (base_of row) ROW_WORDS i few

from_length : (words : List ℕ) (k n : ℕ) → length (words_from words k n) ≡ n
from_length words k zero = refl
from_length words k (suc n) = ap suc (from_length words (suc k) n)

-- a row that has the words of a spelled one after its count spells the same
pub spells_too : (words own : List ℕ) (row : ℕ) (fact : Option Fact) → Spells own fact → ((i : ℕ) → 0 < i → i < ROW_WORDS → cell words row i ≡ get_or own i 0) → Spells (row_words words row) fact
spells_too words own row fact s same = record {
  size = from_length words (base_of row) ROW_WORDS;
  allowed = s.allowed;
  bytes = s.bytes;
  spelled = λ i some few. at_cell words row i few ∙ (same i some few ∙ s.spelled i some few);
}

-- and none, if it was emptied
pub spells_none : (words : List ℕ) (row : ℕ) (more : Bool) → Spells EMPTY_ROW None → ((i : ℕ) → 0 < i → i < ROW_WORDS → cell words row i ≡ get_or (if more then EMPTY_ROW else EMPTY_ROW) i 0) → Spells (row_words words row) None
spells_none words row true empty own = spells_too words EMPTY_ROW row None empty own
spells_none words row false empty own = spells_too words EMPTY_ROW row None empty own

pub count_now : (words : List ℕ) (rows row x : ℕ) → row < rows → length words ≡ base_of rows → count (set words (base_of row) x) row ≡ x
count_now words rows row x inside size = get_or-set_same words (base_of row) x 0 (omega arith)

-- one row's count changes
pub row_raised : (words : List ℕ) (row r x : ℕ) → r ≢ row → row_words (set words (base_of row) x) r ≡ row_words words r
row_raised words row r x ne = words_from_set words (base_of r) ROW_WORDS (base_of row) x (λ j a b e. ne (omega arith))
