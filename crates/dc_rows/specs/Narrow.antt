-- The first words of a row, past which nothing needs to be written.
use Rattle.std.specs.Prelude.{◌≡◌, ℕ, ◌<◌, ◌≤◌, List, min, get_or}
use Rattle.dc_row.specs.Narrow.{words_for}
use Rattle.dc_names.specs.declared.limits.TheConstants.{ROW_WORDS}
use Rattle.dc_index.specs.Slots.{Slot, slot_of, most_text}
use Rattle.dc_events.specs.Rows.{row_words}
use Rattle.dc_table.specs.Rows.{cell}

-- a row's words after the count are zero from this place on
pub record ZeroFrom (end : ℕ) (row : List ℕ) : Type 0 where
  pub zeros : (i : ℕ) → 0 < i → end ≤ i → i < ROW_WORDS → get_or row i 0 ≡ 0

-- how many words of a row may tell something, by its key
abbrev pub most_words : Slot → ℕ
most_words slot = min (words_for (most_text slot)) ROW_WORDS

-- each row is zero past the words that may tell something of its key
abbrev pub AreNarrow : ℕ → List ℕ → List Slot → Type 0
AreNarrow rows words slots = (row : ℕ) → row < rows → ZeroFrom (most_words (slot_of slots row)) (row_words words row)

-- the row has these words already, from this place on
pub record HasFrom (end : ℕ) (table : List ℕ) (row : ℕ) (words : List ℕ) : Type 0 where
  pub few : end ≤ ROW_WORDS
  pub same : (i : ℕ) → 0 < i → end ≤ i → i < ROW_WORDS → cell table row i ≡ get_or words i 0
