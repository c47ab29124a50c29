-- The row that a key is to have.
use Rattle.std.specs.Prelude.{◌≡◌, ◌≢◌, ℕ, ◌+◌, ◌*◌, ◌/◌, List, take, drop, filter, position, Option, option_map}
use Rattle.std.specs.Option.{option_or}
use Rattle.dc_names.specs.declared.limits.TheConstants.{BUCKET_ROWS}
use Rattle.dc_plain.specs.Facts.{Key}
use Rattle.dc_shrink.specs.Listings.{Listing, last_of, in_bucket, is_used, pins_of}
use Rattle.dc_index.specs.Slots.{Slot, slot_of, is_free, has_key, bucket_in}
use Rattle.dc_index.specs.Slots.Slot.{Retired}

abbrev pub slots_in : List Slot → ℕ → List Slot
slots_in slots bucket = take BUCKET_ROWS (drop (BUCKET_ROWS * bucket) slots)

-- the free row of a bucket with the lowest number
abbrev pub first_free : List Slot → ℕ → Option ℕ
first_free slots bucket = option_map (λ place. BUCKET_ROWS * bucket + place) (position is_free (slots_in slots bucket))

-- the first free row of the key's bucket, or else its least recently used unpinned row
abbrev pub choice : List Slot → Listing → Key → Option ℕ
choice slots used key = option_or (first_free slots (bucket_in slots key)) (last_of (filter (in_bucket (bucket_in slots key)) used.listed))

-- in a bucket each row has a key exactly if it is in use
abbrev pub AgreeIn : ℕ → List Slot → Listing → Type 0
AgreeIn bucket slots used = (row : ℕ) → row / BUCKET_ROWS ≡ bucket → has_key (slot_of slots row) ≡ is_used used row

-- a row of the key's bucket that is neither pinned nor retired
abbrev pub MayTake : List Slot → Listing → Key → ℕ → Type 0
MayTake slots used key row = (row / BUCKET_ROWS ≡ bucket_in slots key) × (pins_of used row ≡ 0) × (slot_of slots row ≢ Retired)
