-- What is written of a row, and which rows are odd during a change.
use Rattle.std.specs.Prelude.{◌≡◌, ◌≢◌, ℕ, ◌+◌, ◌<◌, ◌≤◌, List, length, get_or, slice_get, Option, Some}
use Rattle.dc_plain.specs.Facts.{Fact, Key}
use Rattle.dc_plain.specs.Trees.{Tree}
use Rattle.dc_row.specs.Spelling.{Spells}
use Rattle.dc_names.specs.declared.limits.TheConstants.{ROW_WORDS}
use Rattle.dc_index.specs.Slots.{Slot}
use Rattle.dc_shrink.specs.Listings.{Listing}
use Rattle.dc_events.specs.Rows.{count, row_words, IfFact}
use Rattle.dc_table.specs.Rows.{Fit, OnlyOdd, cell}
use Rattle.dc_rows.specs.Narrow.{AreNarrow}

-- the keys from place i to before place n
abbrev pub Between : ℕ → ℕ → List Key → Key → Type 0
Between i n keys key = (j : ℕ) × (i ≤ j) × (j < n) × (slice_get keys j ≡ Some key)

-- the rows of the keys from place i to before place n are odd, and no others; odd or even, each is zero past the words that may tell something of its key
pub record Stage (t : Tree) (rows : ℕ) (words : List ℕ) (slots : List Slot) (used : Listing) (i n : ℕ) (keys : List Key) : Type 0 where
  pub fit : Fit rows words slots used
  pub rest : OnlyOdd t rows words slots (Between i n keys)
  pub narrow : AreNarrow rows words slots

-- the words spell a fact that is true now, or none
pub record MayTell (t : Tree) (words : List ℕ) : Type 0 where
  pub fact : Option Fact
  pub spelled : Spells words fact
  pub now : IfFact t fact

-- one row's words after the count were written up to before place i, and nothing else: from there on they are as they were
pub record Writing (before after : List ℕ) (row : ℕ) (words : List ℕ) (i : ℕ) : Type 0 where
  pub size : length after ≡ length before
  pub others : (r : ℕ) → r ≢ row → row_words after r ≡ row_words before r
  pub count : count after row ≡ count before row
  pub own : (j : ℕ) → 0 < j → j < i → cell after row j ≡ get_or words j 0
  pub kept : (j : ℕ) → i ≤ j → j < ROW_WORDS → cell after row j ≡ cell before row j

-- one row has just these words, and its count is this much higher
pub record Wrote (before after : List ℕ) (row : ℕ) (words : List ℕ) (more : ℕ) : Type 0 where
  pub size : length after ≡ length before
  pub others : (r : ℕ) → r ≢ row → row_words after r ≡ row_words before r
  pub count : count after row ≡ count before row + more
  pub own : (i : ℕ) → 0 < i → i < ROW_WORDS → cell after row i ≡ get_or words i 0
