-- The row that has a key, and the row that is to have it.
use Rattle.std.proofs.Common.{◌≡◌, ◌↔◌, ℕ, ◌+◌, ◌-◌, ◌*◌, ◌<◌, ◌/◌, ◌%◌, Bool, true, false, List, length, drop, slice_index_or, Option, Some, None, is_some, IfSome, refl, sym, ap, subst, ◌∙◌, arith, nat_eq, filter, position, length-take, length-drop}
use Rattle.std.specs.Option.{unwrap_or, option_map, option_or}
use Rattle.std.specs.FinMap as map
use Rattle.std.specs.Cmp.{nat_eq_equiv}
use Rattle.std.proofs.lemmas.Bool.{eqb-true, eq-eqb, and_parts, or_parts}
use Rattle.std.proofs.lemmas.List.{get_or-take, get_or-drop}
use Rattle.std.proofs.lemmas.List.Quantifiers.{position-Some}
use Rattle.std.proofs.lemmas.Map.Keys.{any_passes_from_place}
use Rattle.std.proofs.lemmas.Map.Made.{is_member-filter}
use Rattle.dc_plain.specs.Facts.{Key}
use Rattle.dc_shrink.specs.Listings.{Listing, IsListing, is_in, is_used, last_of, in_bucket}
use Rattle.dc_index.specs.Slots.{Slot, slot_of, is_free, has_key, is_slot_of, bucket_in, IsIndex}
use Rattle.dc_index.specs.Slots.Slot.{Free, Retired, Holds}
use Rattle.dc_index.specs.Choices.{slots_in, AgreeIn, MayTake}
use Rattle.dc_index.proofs.Keys.{holds_true, holds_itself}
use Rattle.dc_index.proofs.Kept.{bucket_below, below_of_bucket}
use Rattle.dc_index.proofs.Places.{position_none}

module _ {slots : List Slot} (is : IsIndex slots) (b : ℕ) (here : b < length slots / 4) where
  pub four_slots : length (slots_in slots b) ≡ 4
  four_slots = length-take 4 (drop (4 * b) slots) ∙ omega (arith, length-drop (4 * b) slots, is.fours)

  slot_at : (p : ℕ) → p < 4 → slice_index_or (slots_in slots b) p Free ≡ slot_of slots (4 * b + p)
  slot_at p h = get_or-take 4 (drop (4 * b) slots) p Free h ∙ get_or-drop (4 * b) slots p Free

  -- what stands at the place that a test finds
  pub found : (test : Slot → Bool) (p : ℕ) → position test (slots_in slots b) ≡ Some p → (p < 4) × (test (slot_of slots (4 * b + p)) ≡ true)
  found test p h = let at = position-Some test (slots_in slots b) p Free h in let small : p < 4 = omega (arith, four_slots, at.0) in
      (small, ap test (sym (slot_at p small)) ∙ at.1)

  pub not_found : (test : Slot → Bool) → position test (slots_in slots b) ≡ None → (row : ℕ) → row / 4 ≡ b → test (slot_of slots row) ≡ false
  not_found test h row e = let whole : 4 * b + row % 4 ≡ row = omega arith in
      subst (λ (r : ℕ). test (slot_of slots r) ≡ false) whole
      (ap test (sym (slot_at (row % 4) (omega arith))) ∙ position_none test (slots_in slots b) h (row % 4) Free (omega (arith, four_slots)))

module _ {slots : List Slot} (is : IsIndex slots) (key : Key) (b : ℕ) (its : b ≡ bucket_in slots key) (here : b < length slots / 4) where
  pub row_found : (p : ℕ) → position (is_slot_of key) (slots_in slots b) ≡ Some p → (row : ℕ) → (Some (4 * b + p) ≡ Some row) ↔ (slot_of slots row ≡ Holds key)
  row_found p h row = let at : slot_of slots (4 * b + p) ≡ Holds key = holds_true key (slot_of slots (4 * b + p)) (found is b here (is_slot_of key) p h).1 in
      ((λ e. let same : 4 * b + p ≡ row = cc in subst (λ (r : ℕ). slot_of slots r ≡ Holds key) same at), (λ e. ap (λ r. Some r) (is.one (4 * b + p) row key at e)))

  pub row_missing : position (is_slot_of key) (slots_in slots b) ≡ None → (row : ℕ) → (None ≡ Some row) ↔ (slot_of slots row ≡ Holds key)
  row_missing h row = ((λ e. cc), (λ e. let no = not_found is b here (is_slot_of key) h row (is.home row key e ∙ sym its) in let yes : is_slot_of key (slot_of slots row) ≡ true = ap (is_slot_of key) e ∙ holds_itself key in cc))

free_true : (slot : Slot) → is_free slot ≡ true → slot ≡ Free
free_true Free h = refl
free_true Retired h = cc
free_true (Holds key) h = cc

no_pins : (o : Option ℕ) → is_some o ≡ false → unwrap_or o 0 ≡ 0
no_pins None h = refl
no_pins (Some v) h = cc

pub if_some : {P : ℕ → Type 0} (o : Option ℕ) → ((row : ℕ) → o ≡ Some row → P row) → IfSome o P
if_some None h = tt
if_some (Some row) h = h row refl

module _ {slots : List Slot} (is : IsIndex slots) {used : Listing} (valid : IsListing used) (key : Key) (b : ℕ) (its : b ≡ bucket_in slots key) (here : b < length slots / 4) (agree : AgreeIn b slots used) where
  free_safe : (row : ℕ) → row / 4 ≡ b → slot_of slots row ≡ Free → MayTake slots used key row
  free_safe row at free = let unused : is_used used row ≡ false = sym (agree row at) ∙ ap has_key free in
      (at ∙ its, no_pins (map.get used.pins row) (or_parts (is_in used.listed row) (is_some (map.get used.pins row)) unused).1, λ e. let two : Free ≡ Retired = sym free ∙ e in cc)

  victim_safe : (row : ℕ) → last_of (filter (in_bucket b) used.listed) ≡ Some row → MayTake slots used key row
  victim_safe row h = let there : is_in (filter (in_bucket b) used.listed) row ≡ true = any_passes_from_place (nat_eq row) (filter (in_bucket b) used.listed) (length (filter (in_bucket b) used.listed) - 1) row h (eq-eqb row row refl) in
      let two = and_parts (is_in used.listed row) (in_bucket b row) (sym (is_member-filter nat_eq_equiv (in_bucket b) row (λ x e. ap (in_bucket b) (eqb-true row x e)) used.listed) ∙ there) in
      let has : has_key (slot_of slots row) ≡ true = agree row (eqb-true (row / 4) b two.1) ∙ rw two.0 refl in
      (eqb-true (row / 4) b two.1 ∙ its, rw (valid.apart row two.0) refl, λ e. let not_has : has_key (slot_of slots row) ≡ false = ap has_key e in cc)

  pub choice_safe : (o : Option ℕ) → position is_free (slots_in slots b) ≡ o → (row : ℕ) → option_or (option_map (λ place. 4 * b + place) o) (last_of (filter (in_bucket b) used.listed)) ≡ Some row → MayTake slots used key row
  choice_safe None h row e = victim_safe row e
  choice_safe (Some p) h row e = let at = found is b here is_free p h in let same : 4 * b + p ≡ row = cc in
      subst (MayTake slots used key) same (free_safe (4 * b + p) (omega (arith, at.0)) (free_true (slot_of slots (4 * b + p)) at.1))

-- a row that may be taken is a row
pub some_within : {slots : List Slot} → IsIndex slots → (used : Listing) (key : Key) (o : Option ℕ) → IfSome o (MayTake slots used key) → IfSome o (λ row. row < length slots)
some_within is used key None h = tt
some_within {slots} is used key (Some row) h = below_of_bucket is row (bucket_in slots key) (bucket_below is key) h.0
