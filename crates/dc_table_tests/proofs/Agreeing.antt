-- What holds of each slot after one was set.
use Rattle.std.proofs.Common.{◌≢◌, ℕ, ◌<◌, List, length, slice_set, sym, subst, inl, inr}
use Rattle.std.proofs.lemmas.Bool.{cases_eq}
use Rattle.std.proofs.lemmas.List.{get_or-set_same, get_or-set_other}
use Rattle.dc_index.specs.Slots.{Slot, slot_of}
use Rattle.dc_index.specs.Slots.Slot.{Free}

-- a slot that is set in one row
pub slot_set : (P : Slot → ℕ → Type 0) (slots : List Slot) (row : ℕ) (slot : Slot) → row < length slots → P slot row → ((r : ℕ) → r ≢ row → P (slot_of slots r) r) → (r : ℕ) → P (slot_of (slice_set slots row slot) r) r
slot_set P slots row slot below here others r = elim (cases_eq r row) [
  | inl e ↦ subst (λ (k : ℕ). P (slot_of (slice_set slots row slot) k) k) (sym e) (subst (λ s. P s row) (sym (get_or-set_same slots row slot Free below)) here)
  | inr ne ↦ subst (λ s. P s r) (sym (get_or-set_other slots row r slot Free ne)) (others r ne)
]
