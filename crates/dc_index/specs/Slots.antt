-- The rows of the cache, each with the key that it has.
use Rattle.std.specs.Prelude.{◌≡◌, ◌↔◌, ℕ, ◌*◌, ◌<◌, ◌≤◌, ◌/◌, ◌%◌, Bool, true, false, ◌==◌, ◌&&◌, List, length, slice_index_or, Option, Some}
use Rattle.dc_names.specs.Hash.{hash_of}
use Rattle.dc_names.specs.declared.limits.TheConstants.{BUCKET_ROWS, NAME_MAX, MOST_TABLE_ROWS}
use Rattle.dc_plain.specs.Facts.{Label, Key, same_label, label_bytes}
use Rattle.dc_plain.specs.Facts.Label.{Entry, Parent, Text}

-- a row: free, never to be used again, or with the key that it has
pub data Slot : Type 0 where
  Free : Slot
  Retired : Slot
  Holds : Key → Slot

abbrev pub slot_of : List Slot → ℕ → Slot
slot_of slots row = slice_index_or slots row Free

abbrev pub is_free : Slot → Bool
is_free Free = true
is_free Retired = false
is_free (Holds key) = false

abbrev pub has_key : Slot → Bool
has_key Free = false
has_key Retired = false
has_key (Holds key) = true

abbrev pub same_key : Key → Key → Bool
same_key a b = a.number == b.number && same_label a.label b.label

abbrev pub is_slot_of : Key → Slot → Bool
is_slot_of key Free = false
is_slot_of key Retired = false
is_slot_of key (Holds other) = same_key other key

-- how many bytes the text has at most that stands in a row for a label: a link's text isn't known by its label
abbrev pub most_bytes : Label → ℕ
most_bytes (Entry name) = length name
most_bytes Parent = length (label_bytes Parent)
most_bytes Text = NAME_MAX

-- how many bytes the text of a row has at most, by its key; a row without a key has none
abbrev pub most_text : Slot → ℕ
most_text Free = 0
most_text Retired = 0
most_text (Holds key) = most_bytes key.label

-- without the key that it has; a retired row stays so
abbrev pub cleared : Slot → Slot
cleared Free = Free
cleared Retired = Retired
cleared (Holds key) = Free

-- the hash of a key
abbrev pub key_hash : Key → ℕ
key_hash key = hash_of key.number (label_bytes key.label)

-- the bucket of a key, of this many
abbrev pub bucket_of : Key → ℕ → ℕ
bucket_of key buckets = key_hash key % buckets

-- the bucket of a key, of those that the rows make
abbrev pub bucket_in : List Slot → Key → ℕ
bucket_in slots key = bucket_of key (length slots / BUCKET_ROWS)

-- the row that has a key, or none if no row has it
abbrev pub IsRowOf : List Slot → Key → Option ℕ → Type 0
IsRowOf slots key found = (row : ℕ) → (found ≡ Some row) ↔ (slot_of slots row ≡ Holds key)

-- the rows are those of whole buckets, one at least; a key stands in its bucket, in one row at most
pub record IsIndex (slots : List Slot) : Type 0 where
  pub some : 0 < length slots / BUCKET_ROWS
  pub short : length slots ≤ MOST_TABLE_ROWS
  pub fours : BUCKET_ROWS * (length slots / BUCKET_ROWS) ≡ length slots
  pub home : (row : ℕ) (key : Key) → slot_of slots row ≡ Holds key → row / BUCKET_ROWS ≡ bucket_in slots key
  pub one : (row other : ℕ) (key : Key) → slot_of slots row ≡ Holds key → slot_of slots other ≡ Holds key → row ≡ other
