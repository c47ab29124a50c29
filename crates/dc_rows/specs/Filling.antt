-- A row that is written anew: emptied, or filled for another key.
use Rattle.std.specs.Prelude.{◌≡◌, ◌≢◌, ◌⊎◌, ◌↔◌, ℕ, ◌+◌, ◌<◌, ◌≤◌, Bool, true, false, if◌then◌else◌, List, length, get_or, slice_set}
use Rattle.dc_plain.specs.Facts.{Key}
use Rattle.dc_plain.specs.Trees.{Tree}
use Rattle.dc_names.specs.declared.limits.TheConstants.{ROW_WORDS}
use Rattle.dc_row.specs.declared.TheConstants.{EMPTY_ROW}
use Rattle.dc_index.specs.Slots.{Slot, slot_of}
use Rattle.dc_index.specs.Slots.Slot.{Free, Retired, Holds as Held}
use Rattle.dc_shrink.specs.Listings.{Listing, dropped}
use Rattle.dc_events.specs.Rows.{most, count, row_words}
use Rattle.dc_table.specs.RowStates.{RowState}
use Rattle.dc_table.specs.Rows.{Rest, cell, is_retired}
use Rattle.dc_table.specs.Changes.{tree_now, words_of}
use Rattle.dc_table.specs.Passes.{Pass, share}
use Rattle.dc_table.specs.declared.table.Guarded.{Guarded}

-- one row was shut, written and opened: with these words, or empty if that was its last opening
pub record Redone (before after : List ℕ) (row : ℕ) (words : List ℕ) (more : Bool) : Type 0 where
  pub size : length after ≡ length before
  pub others : (r : ℕ) → r ≢ row → row_words after r ≡ row_words before r
  pub counted : count after row ≡ count before row + 2
  pub own : (i : ℕ) → 0 < i → i < ROW_WORDS → cell after row i ≡ get_or (if more then words else EMPTY_ROW) i 0
  pub further : more ≡ true → count before row + 2 < most
  pub last : more ≡ false → most ≤ count before row + 2

-- one row was emptied, and has no key any more
pub record Emptied (before after : List ℕ) (slots later : List Slot) (row : ℕ) : Type 0 where
  pub slot : Slot
  pub more : Bool
  pub is : later ≡ slice_set slots row slot
  pub keyless : (slot ≡ Free) ⊎ (slot ≡ Retired)
  pub redone : Redone before after row EMPTY_ROW more
  pub ended : (is_retired slot ≡ true) ↔ (most ≤ count after row)

-- the row was given a key; its words, and whether it is in use, are still those of before
pub record Given (t : Tree) (rows : ℕ) (words : List ℕ) (slots : List Slot) (used : Listing) (row : ℕ) (key : Key) : Type 0 where
  pub before_slots : List Slot
  pub rest : Rest t rows words before_slots used
  pub given : slots ≡ slice_set before_slots row (Held key)
  pub inside : row < length before_slots
  pub open_still : slot_of before_slots row ≢ Retired

abbrev pub GivenAt : Pass → Guarded → ℕ → Key → Type 0
GivenAt p x row key = Given (tree_now p) (share p).rows (words_of p) x.index x.shrinker row key

-- the same rows with one of them out of use
abbrev pub without_use : RowState → ℕ → RowState
without_use s row = record s { used = dropped s.used row }
