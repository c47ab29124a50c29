-- A row that was given a key is filled, or emptied again: no other row is another.
use Rattle.std.proofs.Common.{◌≡◌, ◌≢◌, ℕ, Bool, true, false, List, slice_set, ap, sym, ◌∙◌, get_or-set_other}
use Rattle.dc_index.specs.Slots.{Slot, slot_of}
use Rattle.dc_index.specs.Slots.Slot.{Free, Retired}
use Rattle.dc_shrink.specs.Listings.{Listing, added, dropped, is_used, pins_of, without}
use Rattle.dc_shrink.specs.Uses.{SetsUse}
use Rattle.dc_table.specs.RowStates.{RowState}
use Rattle.dc_rows.specs.Filling.{Redone, Emptied}
use Rattle.dc_rows.specs.RowChanges.{OnlyRow}
use Rattle.dc_rows.proofs.Lists.{without_twice, without_first, pins_dropped}

-- a row that is in use now, and was out of use between
pub used_since : {was between now : Listing} {row : ℕ} → SetsUse row false was between → SetsUse row true was now → SetsUse row true between now
used_since left taken = record { here = taken.here; others = λ r ne. taken.others r ne ∙ sym (left.others r ne) }

module _ (s t : RowState) (row : ℕ) where
  other_slot : (slot : Slot) → t.slots ≡ slice_set s.slots row slot → (r : ℕ) → r ≢ row → slot_of t.slots r ≡ slot_of s.slots r
  other_slot slot is r ne = ap (λ (z : List Slot). slot_of z r) is ∙ get_or-set_other s.slots row r slot Free ne

  pub filled_first : (own : List ℕ) (more : Bool) → Redone s.words t.words row own more → t.slots ≡ s.slots → t.used ≡ added s.used row → SetsUse row true s.used t.used → OnlyRow row s t
  filled_first own more w slots used sets = record {
    others = λ r ne. record { words = w.others r ne; slot = ap (λ (z : List Slot). slot_of z r) slots; pins = ap (λ (u : Listing). pins_of u r) used; used = sets.others r ne };
    order = ap (λ (u : Listing). without row u.listed) used ∙ without_first row s.used.listed;
  }

  pub filled_last : (own : List ℕ) (more : Bool) (between : Listing) → Redone s.words t.words row own more → t.slots ≡ slice_set s.slots row Retired → between ≡ added s.used row → SetsUse row true s.used between → t.used ≡ dropped between row → SetsUse row false between t.used → OnlyRow row s t
  filled_last own more between w slots taken in_use left out = record {
    others = λ r ne. record {
      words = w.others r ne;
      slot = other_slot Retired slots r ne;
      pins = ap (λ (u : Listing). pins_of u r) left ∙ (pins_dropped between row r ne ∙ ap (λ (u : Listing). pins_of u r) taken);
      used = out.others r ne ∙ in_use.others r ne;
    };
    order = ap (λ (u : Listing). without row u.listed) left ∙ (without_twice row between.listed ∙ (ap (λ (u : Listing). without row u.listed) taken ∙ without_first row s.used.listed));
  }

  pub filled_none : Emptied s.words t.words s.slots t.slots row → t.used ≡ s.used → OnlyRow row s t
  filled_none e used = record {
    others = λ r ne. record { words = e.redone.others r ne; slot = other_slot e.slot e.is r ne; pins = ap (λ (u : Listing). pins_of u r) used; used = ap (λ (u : Listing). is_used u r) used };
    order = ap (λ (u : Listing). without row u.listed) used;
  }
