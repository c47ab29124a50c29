-- What becomes of rows: which are as they were, which are empty, and how the list of those in use goes on.
use Rattle.std.specs.Prelude.{◌≡◌, ◌≢◌, ◌⊎◌, ◌↔◌, ℕ, ◌+◌, ◌-◌, ◌<◌, ◌≤◌, true, false, not, List, length, take, filter, Option, Some, None, Result, Ok, Err, IsTrue}
use Rattle.std.specs.List.{count_by}
use Rattle.std.specs.Prelude.{nat_eq}
use Rattle.dc_names.specs.declared.NoMemory.{NoMemory}
use Rattle.dc_plain.specs.Facts.{Fact, Key, Target, key_of}
use Rattle.dc_plain.specs.Facts.Fact.{Leads}
use Rattle.dc_plain.specs.Trees.{Tree, Holds}
use Rattle.dc_row.specs.Spelling.{Spells, has_spelling}
use Rattle.dc_index.specs.Slots.{Slot, slot_of, has_key, IsRowOf}
use Rattle.dc_index.specs.Slots.Slot.{Holds as Held}
use Rattle.dc_index.specs.Choices.{choice, MayTake}
use Rattle.dc_shrink.specs.Listings.{is_in, is_used, pins_of, without}
use Rattle.dc_events.specs.Rows.{most, count, row_words}
use Rattle.dc_table.specs.Rows.{is_retired}
use Rattle.dc_table.specs.RowStates.{RowState}

-- the row has the same words and the same key, if any, and is as much in use
pub record KeepsWords (s t : RowState) (row : ℕ) : Type 0 where
  pub words : row_words t.words row ≡ row_words s.words row
  pub slot : slot_of t.slots row ≡ slot_of s.slots row
  pub used : is_used t.used row ≡ is_used s.used row

-- the row has the same key, if any, and as many pins, and is as much in use
pub record KeepsPins (s t : RowState) (row : ℕ) : Type 0 where
  pub slot : slot_of t.slots row ≡ slot_of s.slots row
  pub pins : pins_of t.used row ≡ pins_of s.used row
  pub used : is_used t.used row ≡ is_used s.used row

-- the row is as it was
pub record SameRow (s t : RowState) (row : ℕ) : Type 0 where
  pub words : row_words t.words row ≡ row_words s.words row
  pub slot : slot_of t.slots row ≡ slot_of s.slots row
  pub pins : pins_of t.used row ≡ pins_of s.used row
  pub used : is_used t.used row ≡ is_used s.used row

-- all other rows are as they were, and the unpinned ones stand in the list as they stood
pub record OnlyRow (row : ℕ) (s t : RowState) : Type 0 where
  pub others : (r : ℕ) → r ≢ row → SameRow s t r
  pub order : without row t.used.listed ≡ without row s.used.listed

-- the row has no key and tells nothing, and isn't in use; it is retired exactly if its count is at its end
pub record IsEmpty (t : RowState) (row : ℕ) : Type 0 where
  pub keyless : has_key (slot_of t.slots row) ≡ false
  pub nothing : Spells (row_words t.words row) None
  pub unused : is_used t.used row ≡ false
  pub unpinned : pins_of t.used row ≡ 0
  pub ended : (is_retired (slot_of t.slots row) ≡ true) ↔ (most ≤ count t.words row)

-- the row was shut and opened, and is empty; all others are as they were
pub record EmptiesRow (row : ℕ) (s t : RowState) : Type 0 where
  pub counted : count t.words row ≡ count s.words row + 2
  pub own : IsEmpty t row
  pub only : OnlyRow row s t

-- the last n of the listed rows are empty; all others are as they were, and are listed in the same order
pub record EmptiesLast (n : ℕ) (s t : RowState) : Type 0 where
  pub listed : t.used.listed ≡ take (length s.used.listed - n) s.used.listed
  pub rows : (row : ℕ) → SameRow s t row ⊎ ((is_in s.used.listed row ≡ true) × IsEmpty t row)

-- the row had one pin more, if it has lost any, and keeps its words and its key, or is empty as its last pin went
pub record UnpinsRow (row : ℕ) (s t : RowState) : Type 0 where
  pub pins : pins_of t.used row ≡ pins_of s.used row - 1
  pub own : KeepsWords s t row ⊎ (IsEmpty t row × (pins_of s.used row ≡ 1))
  pub only : OnlyRow row s t

-- each row has lost a pin each time that it stands among these, as long as it had one; with its last it may have become empty
pub record UnpinsAll (rows : List ℕ) (s t : RowState) : Type 0 where
  pub pins : (row : ℕ) → pins_of t.used row ≡ pins_of s.used row - count_by (nat_eq row) rows
  pub own : (row : ℕ) → KeepsWords s t row ⊎ (IsEmpty t row × (0 < pins_of s.used row))
  pub order : filter (λ row. not (is_in rows row)) t.used.listed ≡ filter (λ row. not (is_in rows row)) s.used.listed

-- no row had the key, and this one is chosen for it: one of its bucket that is neither pinned nor retired
pub record IsChosen (key : Key) (s : RowState) (row : ℕ) : Type 0 where
  pub absent : IsRowOf s.slots key None
  pub chosen : choice s.slots s.used key ≡ Some row
  pub may : MayTake s.slots s.used key row

-- the row has the key, which it had or is chosen for, and this many pins more; all others are as they were
pub record HasGot (key : Key) (more : ℕ) (s t : RowState) (row : ℕ) : Type 0 where
  pub has : slot_of t.slots row ≡ Held key
  pub pins : pins_of t.used row ≡ pins_of s.used row + more
  pub own : KeepsWords s t row ⊎ IsChosen key s row
  pub only : OnlyRow row s t

-- no pin has come or gone, and one row at most is another: the one that is chosen for the key
pub record MayFill (key : Key) (s t : RowState) : Type 0 where
  pub row : ℕ
  pub pins : pins_of t.used row ≡ pins_of s.used row
  pub own : SameRow s t row ⊎ IsChosen key s row
  pub only : OnlyRow row s t

-- a row has got the key, and this many pins more; or none, and then no pin has come or gone
abbrev pub Gets : Key → ℕ → RowState → RowState → Result (Option ℕ) NoMemory → Type 0
Gets key more s t (Ok (Some row)) = HasGot key more s t row
Gets key more s t (Ok None) = MayFill key s t
Gets key more s t (Err fault) = MayFill key s t

-- one pin has come to the row, and no other has come or gone
pub record PinsOnly (row : ℕ) (s t : RowState) : Type 0 where
  pub one : pins_of t.used row ≡ pins_of s.used row + 1
  pub others : (r : ℕ) → r ≢ row → pins_of t.used r ≡ pins_of s.used r

-- no pin has come or gone
abbrev pub SamePins : RowState → RowState → Type 0
SamePins s t = (row : ℕ) → pins_of t.used row ≡ pins_of s.used row

-- one pin has come to the row that is answered, if any, and no other has come or gone
abbrev pub PinsAnswered : RowState → RowState → Result (Option ℕ) NoMemory → Type 0
PinsAnswered s t (Ok (Some row)) = PinsOnly row s t
PinsAnswered s t (Ok None) = SamePins s t
PinsAnswered s t (Err fault) = SamePins s t

-- this very row was found, and has the key
abbrev pub IsFilled : List Slot → ℕ → Key → ℕ → Type 0
IsFilled slots row key found = (found ≡ row) × (slot_of slots found ≡ Held key)

-- there is a row that tells what the tree has under the key
abbrev pub CanTell : Tree → Key → Type 0
CanTell t key = (fact : Fact) × (key_of fact ≡ key) × Holds t fact × IsTrue (has_spelling (Some fact))

-- the key is that of an entry, which leads there in the tree, if anywhere
abbrev pub LeadsTo : Tree → Key → Option Target → Type 0
LeadsTo t key target = Holds t (Leads key.number key.label target)
