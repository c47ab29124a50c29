-- The rows that are shut for a change: which row has which key, and how the stage goes on.
use Rattle.std.specs.Prelude.{◌≡◌, ℕ, ◌+◌, ◌<◌, List, Option, None, IfSome, option_map, slice_index_or}
use Rattle.dc_plain.specs.Facts.{Key}
use Rattle.dc_ops.specs.Keys.{AreDistinct}
use Rattle.dc_index.specs.Hashed.{key_in}
use Rattle.dc_index.specs.Slots.{Slot, slot_of, IsRowOf}
use Rattle.dc_events.specs.Rows.{row_words}
use Rattle.dc_table.specs.Changes.{words_of}
use Rattle.dc_table.specs.Passes.{Pass, share}
use Rattle.dc_table.specs.Rows.{Fit, IsOdd}
use Rattle.dc_table.specs.declared.table.Guarded.{Guarded}
use Rattle.dc_rows.specs.Changes.{StageAt}
use Rattle.dc_rows.specs.Narrow.{ZeroFrom, most_words}
use Rattle.dc_rows.specs.Refills.{Place}
use Rattle.dc_rows.specs.declared.shutting.OddRow.{OddRow}

-- the row that has the key was found, or none has it
pub record IsFound (slots : List Slot) (asked : Key) (found : Option OddRow) : Type 0 where
  pub row : IsRowOf slots asked (option_map (λ odd. odd.row) found)
  pub key : IfSome found (λ odd. key_in odd.key ≡ asked)

-- those of the first n keys were
abbrev pub AreFound : List Slot → List Key → ℕ → List (Option OddRow) → Type 0
AreFound slots keys n found = (i : ℕ) → i < n → (key : Key) × Place keys i key × IsFound slots key (slice_index_or found i None)

-- index and shrinker fit the table
abbrev pub FitAt : Pass → Guarded → Type 0
FitAt p x = Fit (share p).rows (words_of p) x.index x.shrinker

-- the row is odd, and zero past the words that may tell something of its key
pub record MayOpen (p : Pass) (x : Guarded) (row : ℕ) : Type 0 where
  pub fit : FitAt p x
  pub odd : IsOdd (row_words (words_of p) row)
  pub narrow : ZeroFrom (most_words (slot_of x.index row)) (row_words (words_of p) row)

-- wherever the key stands in a list, its row is shut after those of the keys before it
abbrev pub ShutsNext : Pass → Guarded → Pass → Guarded → Key → Type 0
ShutsNext p x q y key = (keys : List Key) (i : ℕ) → Place keys i key → StageAt p x 0 i keys → StageAt q y 0 (i + 1) keys

-- and it is opened before those of the keys after it
abbrev pub OpensNext : Pass → Guarded → Pass → Guarded → Key → Type 0
OpensNext p x q y key = (keys : List Key) (i n : ℕ) → i < n → Place keys i key → AreDistinct keys → StageAt p x i n keys → StageAt q y (i + 1) n keys
