-- What a change makes of the rows of the keys that it touches, and of all others.
use Rattle.std.specs.Prelude.{◌≡◌, ◌⊎◌, ℕ, ◌+◌, ◌≤◌, Some, List, filter, map, slice_get}
use Rattle.dc_plain.specs.Facts.{Key}
use Rattle.dc_plain.specs.KeysShown.{key_shown}
use Rattle.dc_plain.specs.declared.key.Key as rust_key
use Rattle.dc_plain.specs.Trees.{Tree}
use Rattle.dc_plain.specs.Requests.{Request}
use Rattle.dc_plain.specs.Runs.{Touches}
use Rattle.dc_index.specs.Slots.{slot_of, has_key}
use Rattle.dc_index.specs.Slots.Slot.{Holds as Held}
use Rattle.dc_events.specs.Rows.{most, count, row_words}
use Rattle.dc_table.specs.Rows.{IsOf}
use Rattle.dc_table.specs.RowStates.{RowState}
use Rattle.dc_table.specs.Changes.{tree_now}
use Rattle.dc_table.specs.Passes.{share}
use Rattle.dc_table.specs.declared.table.Guarded.{Guarded}
use Rattle.dc_table.specs.declared.holder.Holder.{Holder}
use Rattle.dc_table.specs.Holders.{rows_held}
use Rattle.dc_rows.specs.Guards.{kept_by, rows_of, seat_of}
use Rattle.dc_rows.specs.Rows.{Between}
use Rattle.dc_rows.specs.RowChanges.{KeepsPins, SameRow, IsEmpty, CanTell}
use Rattle.dc_rows.specs.declared.guard.Guard.{Guard}

-- the rows with these keys have become so, and all others are as they were; the list has lost only rows without a key
pub record Turns (Become : RowState → RowState → ℕ → Key → Type 0) (Among : Key → Type 0) (s t : RowState) : Type 0 where
  pub others : (row : ℕ) → ((key : Key) → slot_of s.slots row ≡ Held key → Among key → ⊥) → SameRow s t row
  pub own : (row : ℕ) (key : Key) → slot_of s.slots row ≡ Held key → Among key → Become s t row key
  pub order : t.used.listed ≡ filter (λ row. has_key (slot_of t.slots row)) s.used.listed

-- the row was shut; it has its key still, or is empty if that was its last opening
abbrev pub Shut : RowState → RowState → ℕ → Key → Type 0
Shut s t row key = (KeepsPins s t row × (count t.words row ≡ count s.words row + 1))
    ⊎ (IsEmpty t row × (count t.words row ≡ count s.words row + 2) × (most ≤ count t.words row))

-- the odd row was opened; it has its key still and tells the key's fact, or is empty if no row can tell that
pub record Refilled (tree : Tree) (s t : RowState) (row : ℕ) (key : Key) : Type 0 where
  pub counted : count t.words row ≡ count s.words row + 1
  pub own : (KeepsPins s t row × IsOf tree (row_words t.words row) key) ⊎ (IsEmpty t row × (CanTell tree key → ⊥))

-- the row was shut and opened; it has its key still and tells the key's fact, or is empty if no row can tell that or its count is at its end
pub record Retold (tree : Tree) (s t : RowState) (row : ℕ) (key : Key) : Type 0 where
  pub counted : count t.words row ≡ count s.words row + 2
  pub own : (KeepsPins s t row × IsOf tree (row_words t.words row) key) ⊎ (IsEmpty t row × (CanTell tree key → most ≤ count t.words row))

-- the rows of the holder, before and after
abbrev pub TurnsIn : (RowState → RowState → ℕ → Key → Type 0) → (Key → Type 0) → Holder → Guarded → Holder → Guarded → Type 0
TurnsIn Become Among h x j y = Turns Become Among (rows_held h x) (rows_held j y)

-- the rows with these keys were shut
abbrev pub Shuts : (Key → Type 0) → Holder → Guarded → Holder → Guarded → Type 0
Shuts Among h x j y = TurnsIn Shut Among h x j y

-- the odd rows with these keys were filled with what the store has under them, and opened
abbrev pub Refills : (Key → Type 0) → Holder → Guarded → Holder → Guarded → Type 0
Refills Among h x j y = TurnsIn (Refilled x.store) Among h x j y

-- the rows whose keys the call touches tell what the guard's tree has under them, and all others are as they were
abbrev pub Retells : Guard → Guard → Request → Type 0
Retells g h call = let p = seat_of g in Turns (Retold (kept_by h).store) (Touches (share p).limit (tree_now p) call) (rows_of g) (rows_of h)

-- the key at a place of the list
abbrev pub Place : List Key → ℕ → Key → Type 0
Place keys i key = slice_get keys i ≡ Some key

-- this key
abbrev pub Is : Key → Key → Type 0
Is key other = other ≡ key

-- the first n of the program's keys
abbrev pub FirstKeys : ℕ → List rust_key.Key → Key → Type 0
FirstKeys n keys = Between 0 n (map key_shown keys)
