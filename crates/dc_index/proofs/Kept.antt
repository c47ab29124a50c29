-- Each change leaves a key in one row of its bucket.
use Rattle.std.proofs.Common.{◌≡◌, ℕ, zero, suc, ◌+◌, ◌*◌, ◌<◌, ◌≤◌, ◌/◌, ◌%◌, ◌⊎◌, true, false, List, ◌∷◌, length, replicate, slice_set, slice_index_or, refl, sym, ap, subst, ◌∙◌, inl, inr, arith, map}
use Rattle.std.specs.List.{range_with_len}
use Rattle.std.proofs.lemmas.Bool.{cases_eq, cases_lt}
use Rattle.std.proofs.lemmas.List.{get_or-set_same, get_or-set_other, get_or-replicate, get_or_past, get_or-map, length-set, length-replicate}
use Rattle.dc_names.specs.Hash.{hash_of}
use Rattle.dc_names.specs.declared.limits.TheConstants.{BUCKET_ROWS, MOST_TABLE_BUCKETS}
use Rattle.dc_plain.specs.Facts.{Key, label_bytes}
use Rattle.dc_index.specs.Slots.{Slot, slot_of, has_key, cleared, bucket_in, IsIndex}
use Rattle.dc_index.specs.Slots.Slot.{Free, Retired, Holds}
use Rattle.dc_index.specs.OwnKeys.{slot_shown}
use Rattle.dc_index.specs.declared.slot.Slot as rust_slot
use Rattle.dc_index.specs.declared.slot.Slot.TheVariants as slots

same_bucket : (slots : List Slot) (row : ℕ) (slot : Slot) (key : Key) → bucket_in (slice_set slots row slot) key ≡ bucket_in slots key
same_bucket slots row slot key = ap (λ n. hash_of key.number (label_bytes key.label) % (n / 4)) (length-set slots row slot)

module _ {slots : List Slot} (is : IsIndex slots) (row : ℕ) (below : row < length slots) where
  -- what a slot is after one was set
  after : (slot : Slot) (r : ℕ) (key : Key) → slot_of (slice_set slots row slot) r ≡ Holds key → ((r ≡ row) × (slot ≡ Holds key)) ⊎ ((r ≡ row → ⊥) × (slot_of slots r ≡ Holds key))
  after slot r key h = at (cases_eq r row)
    where
      at : (r ≡ row) ⊎ (r ≡ row → ⊥) → ((r ≡ row) × (slot ≡ Holds key)) ⊎ ((r ≡ row → ⊥) × (slot_of slots r ≡ Holds key))
      at (inl e) = inl (e, sym (get_or-set_same slots row slot Free below) ∙ ap (slot_of (slice_set slots row slot)) (sym e) ∙ h)
      at (inr ne) = inr (ne, sym (get_or-set_other slots row r slot Free ne) ∙ h)

  -- a slot with a key that no other row has, in its bucket, or one without a key
  pub kept_set : (slot : Slot) → ((key : Key) → slot ≡ Holds key → (row / 4 ≡ bucket_in slots key) × ((r : ℕ) → slot_of slots r ≡ Holds key → ⊥)) → IsIndex (slice_set slots row slot)
  kept_set slot fit = record {
    some = rw (length-set slots row slot) is.some;
    short = rw (length-set slots row slot) is.short;
    fours = rw (length-set slots row slot) is.fours;
    home = λ r key h. home_at r key (after slot r key h) ∙ sym (same_bucket slots row slot key);
    one = λ r t key h k. one_at r t key (after slot r key h) (after slot t key k);
  }
    where
      home_at : (r : ℕ) (key : Key) → ((r ≡ row) × (slot ≡ Holds key)) ⊎ ((r ≡ row → ⊥) × (slot_of slots r ≡ Holds key)) → r / 4 ≡ bucket_in slots key
      home_at r key (inl e) = ap (λ n. n / 4) e.0 ∙ (fit key e.1).0
      home_at r key (inr e) = is.home r key e.1

      one_at : (r t : ℕ) (key : Key) → ((r ≡ row) × (slot ≡ Holds key)) ⊎ ((r ≡ row → ⊥) × (slot_of slots r ≡ Holds key)) → ((t ≡ row) × (slot ≡ Holds key)) ⊎ ((t ≡ row → ⊥) × (slot_of slots t ≡ Holds key)) → r ≡ t
      one_at r t key (inl e) (inl f) = e.0 ∙ sym f.0
      one_at r t key (inl e) (inr f) = absurd ((fit key e.1).1 t f.1)
      one_at r t key (inr e) (inl f) = absurd ((fit key f.1).1 r e.1)
      one_at r t key (inr e) (inr f) = is.one r t key e.1 f.1

  pub kept_empty : (slot : Slot) → has_key slot ≡ false → IsIndex (slice_set slots row slot)
  kept_empty slot h = kept_set slot (λ key e. none key (ap has_key (sym e) ∙ h))
    where
      none : (key : Key) → true ≡ false → (row / 4 ≡ bucket_in slots key) × ((r : ℕ) → slot_of slots r ≡ Holds key → ⊥)
      none key e = cc

  -- a key without a row gets one of its bucket
  pub kept_key : (key : Key) → row / 4 ≡ bucket_in slots key → ((r : ℕ) → slot_of slots r ≡ Holds key → ⊥) → IsIndex (slice_set slots row (Holds key))
  kept_key key here absent = kept_set (Holds key) (λ other e. same other e)
    where
      same : (other : Key) → Holds key ≡ Holds other → (row / 4 ≡ bucket_in slots other) × ((r : ℕ) → slot_of slots r ≡ Holds other → ⊥)
      same other e = let k : key ≡ other = cc in subst (λ (q : Key). (row / 4 ≡ bucket_in slots q) × ((r : ℕ) → slot_of slots r ≡ Holds q → ⊥)) k (here, absent)

pub cleared_empty : (slot : Slot) → has_key (cleared slot) ≡ false
cleared_empty Free = refl
cleared_empty Retired = refl
cleared_empty (Holds key) = refl

pub bucket_below : {slots : List Slot} → IsIndex slots → (key : Key) → bucket_in slots key < length slots / 4
bucket_below {slots} is key = below_some (hash_of key.number (label_bytes key.label)) (length slots / 4) is.some
  where
    below_some : (h n : ℕ) → 0 < n → h % n < n
    below_some h n some = omega arith

-- what a slot of the program shows, where it stands
pub slot_seen : (items : List rust_slot.Slot) (row : ℕ) (x : rust_slot.Slot) → row < length items → x ≡ slice_index_or items row x → slot_shown x ≡ slot_of (map slot_shown items) row
slot_seen items row x below is = ap slot_shown is ∙ sym (get_or-map slot_shown items row x Free below)

pub shown_free : (a n : ℕ) → map slot_shown (map (λ _. slots.Free) (range_with_len a n)) ≡ replicate n Free
shown_free a zero = refl
shown_free a (suc n) = ap (λ r. Free ∷ r) (shown_free (a + 1) n)

-- a row of a bucket is a row
pub below_of_bucket : {slots : List Slot} → IsIndex slots → (row : ℕ) (b : ℕ) → b < length slots / 4 → row / 4 ≡ b → row < length slots
below_of_bucket is row b h e = omega (arith, is.fours)

pub all_free : (n r : ℕ) → slot_of (replicate n Free) r ≡ Free
all_free n r = at (cases_lt r n)
  where
    at : (r < n) ⊎ (n ≤ r) → slot_of (replicate n Free) r ≡ Free
    at (inl h) = get_or-replicate n r Free Free h
    at (inr h) = get_or_past (replicate n Free) r Free (rw (length-replicate n Free) h)

pub kept_new : (b : ℕ) → 0 < b → b ≤ MOST_TABLE_BUCKETS → IsIndex (replicate (BUCKET_ROWS * b) Free)
kept_new b some few = let len = length-replicate (BUCKET_ROWS * b) Free in record {
  some = rw len (omega arith);
  short = rw len (omega arith);
  fours = rw len (omega arith);
  home = λ r key h. let h' = sym (all_free (BUCKET_ROWS * b) r) ∙ h in cc;
  one = λ r t key h k. let h' = sym (all_free (BUCKET_ROWS * b) r) ∙ h in cc;
}
