-- Which rows are odd, and what the even ones spell.
use Rattle.std.specs.Prelude.{◌≡◌, ◌↔◌, ℕ, ◌+◌, ◌%◌, ◌<◌, ◌≤◌, Bool, true, false, List, length, get_or, Option, Some, None}
use Rattle.dc_plain.specs.Facts.{Fact, Key, key_of}
use Rattle.dc_plain.specs.Trees.{Tree, Holds}
use Rattle.dc_row.specs.Spelling.{Spells}
use Rattle.dc_index.specs.Slots.{Slot, slot_of, has_key}
use Rattle.dc_index.specs.Slots.Slot.{Free, Retired, Holds as Held}
use Rattle.dc_shrink.specs.Listings.{Listing, is_used}
use Rattle.dc_events.specs.Rows.{most, base_of, count, row_words, IfFact}

-- the words spell a true fact of this key
pub record IsOf (t : Tree) (row : List ℕ) (key : Key) : Type 0 where
  pub fact : Fact
  pub about : key_of fact ≡ key
  pub now : Holds t fact
  pub spelled : Spells row (Some fact)

-- the words are those that the index promises
abbrev pub FitsSlot : Tree → List ℕ → Slot → Type 0
FitsSlot t row Free = Spells row None
FitsSlot t row Retired = Spells row None
FitsSlot t row (Held key) = IsOf t row key

abbrev pub IsOdd : List ℕ → Type 0
IsOdd row = (get_or row 0 0 % 2 ≡ 1) × (get_or row 0 0 + 1 < most)

abbrev pub IsEven : List ℕ → Type 0
IsEven row = get_or row 0 0 % 2 ≡ 0

-- the row never gets a key again
abbrev pub is_retired : Slot → Bool
is_retired Free = false
is_retired Retired = true
is_retired (Held key) = false

-- a row is odd if its key is one of these, else even, and then it fits its slot; it is retired exactly if its count is at its end
pub record At (t : Tree) (shut : Key → Type 0) (row : List ℕ) (slot : Slot) : Type 0 where
  pub odd : (key : Key) → slot ≡ Held key → shut key → IsOdd row
  pub even : ((key : Key) → slot ≡ Held key → shut key → ⊥) → IsEven row
  pub fits : IsEven row → ∥ FitsSlot t row slot ∥₁
  pub ended : (is_retired slot ≡ true) ↔ (most ≤ get_or row 0 0)

-- the rows whose keys are these are odd, and all others are even and fit
abbrev pub OnlyOdd : Tree → ℕ → List ℕ → List Slot → (Key → Type 0) → Type 0
OnlyOdd t rows words slots shut = (row : ℕ) → row < rows → At t shut (row_words words row) (slot_of slots row)

abbrev pub OfNone : Key → Type 0
OfNone key = ⊥

-- a row has a key exactly if it is in use
abbrev pub Agree : List Slot → Listing → Type 0
Agree slots used = (row : ℕ) → has_key (slot_of slots row) ≡ is_used used row

-- index and shrinker fit the table and one another
pub record Fit (rows : ℕ) (words : List ℕ) (slots : List Slot) (used : Listing) : Type 0 where
  pub indexed : length slots ≡ rows
  pub listed : used.rows ≡ rows
  pub agree : Agree slots used
  pub size : length words ≡ base_of rows

-- all rows are even, and fit index and shrinker
pub record Rest (t : Tree) (rows : ℕ) (words : List ℕ) (slots : List Slot) (used : Listing) : Type 0 where
  pub fit : Fit rows words slots used
  pub rest : OnlyOdd t rows words slots OfNone

-- and none if the row's count would be its last
pub record MayStand (t : Tree) (table : List ℕ) (row : ℕ) (words : List ℕ) : Type 0 where
  pub fact : Option Fact
  pub spelled : Spells words fact
  pub now : IfFact t fact
  pub last : count table row + 1 ≡ most → fact ≡ None

abbrev pub cell : List ℕ → ℕ → ℕ → ℕ
cell words row i = get_or words (base_of row + i) 0
