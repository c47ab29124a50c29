-- The rows of keys become other rows, one after another.
use Rattle.std.proofs.Common.{◌≡◌, ◌≢◌, ◌⊎◌, ◌↔◌, ℕ, ◌+◌, true, false, true≢false, List, filter, slice_get, Option, Some, None, refl, sym, ap, ◌∙◌, subst, arith, inl, inr}
use Rattle.std.proofs.lemmas.Bool.{cases_eq, or_left}
use Rattle.std.proofs.lemmas.Option.{same_Some}
use Rattle.dc_plain.specs.Facts.{Key}
use Rattle.dc_ops.specs.Keys.{AreDistinct}
use Rattle.dc_index.specs.Slots.{Slot, slot_of, has_key, IsRowOf}
use Rattle.dc_index.specs.Slots.Slot.{Free, Retired, Holds as Held}
use Rattle.dc_shrink.specs.Listings.{is_in, without}
use Rattle.dc_table.specs.Rows.{Agree}
use Rattle.dc_table.specs.RowStates.{RowState}
use Rattle.dc_rows.specs.Rows.{Between}
use Rattle.dc_rows.specs.RowChanges.{SameRow, OnlyRow}
use Rattle.dc_rows.specs.Refills.{Turns, Is}
use Rattle.dc_rows.proofs.Slots.{held_two, only_row, unheld}
use Rattle.dc_rows.proofs.Lists.{all_pass, all_but, filter_then}
use Rattle.dc_rows.proofs.SameRows.{same_row, same_then}

-- what becomes of a row goes on if the row was the same before, and if it is the same afterwards; the row has its key still, or none
pub record GoesOn (R : RowState → RowState → ℕ → Key → Type 0) : Type 0 where
  pub before : (s t u : RowState) (row : ℕ) (key : Key) → SameRow s t row → R t u row key → R s u row key
  pub after : (s t u : RowState) (row : ℕ) (key : Key) → R s t row key → SameRow t u row → R s u row key
  pub key : (s t : RowState) (row : ℕ) (key : Key) → R s t row key → (slot_of t.slots row ≡ slot_of s.slots row) ⊎ (has_key (slot_of t.slots row) ≡ false)

keyed_or_not : (slot : Slot) → (has_key slot ≡ true) ⊎ ((key : Key) → slot ≡ Held key → ⊥)
keyed_or_not Free = inr (λ key e. true≢false (sym (ap has_key e)))
keyed_or_not Retired = inr (λ key e. true≢false (sym (ap has_key e)))
keyed_or_not (Held key) = inl refl

-- a key isn't among those before it
pub not_before : (keys : List Key) (i : ℕ) (x : Key) → slice_get keys i ≡ Some x → AreDistinct keys → (key : Key) → Between 0 i keys key → key ≡ x → ⊥
not_before keys i x here distinct key b same = let eq = distinct b.0 i x (b.3 ∙ ap Some same) here in let l = b.2 in absurd (omega arith)

module _ (R : RowState → RowState → ℕ → Key → Type 0) (K : Key → Type 0) (t u : RowState) (b : Turns R K t u) where
  -- a row that has a key had one
  pub had_key : (r : ℕ) → has_key (slot_of u.slots r) ≡ true → has_key (slot_of t.slots r) ≡ true
  had_key r h = elim (keyed_or_not (slot_of t.slots r)) [
    | inl keyed ↦ keyed
    | inr none ↦ sym (ap has_key (b.others r (λ key e k. none key e)).slot) ∙ h
  ]

  pub order_then : (s : RowState) → t.used.listed ≡ filter (λ row. has_key (slot_of t.slots row)) s.used.listed → u.used.listed ≡ filter (λ row. has_key (slot_of u.slots row)) s.used.listed
  order_then s e = b.order ∙ (ap (filter (λ row. has_key (slot_of u.slots row))) e ∙ filter_then (λ row. has_key (slot_of t.slots row)) (λ row. has_key (slot_of u.slots row)) had_key s.used.listed)

-- the rows of other keys, which are as many
pub turns_for : (R : RowState → RowState → ℕ → Key → Type 0) (K L : Key → Type 0) (s t : RowState) → ((key : Key) → K key ↔ L key) → Turns R K s t → Turns R L s t
turns_for R K L s t same a = record {
  others = λ row none. a.others row (λ key e k. none key e ((same key).0 k));
  own = λ row key e l. a.own row key e ((same key).1 l);
  order = a.order;
}

module _ (s : RowState) (agree : Agree s.slots s.used) where
  pub all_keyed : filter (λ row. has_key (slot_of s.slots row)) s.used.listed ≡ s.used.listed
  all_keyed = all_pass (λ row. has_key (slot_of s.slots row)) s.used.listed (λ r e. agree r ∙ or_left (is_in s.used.listed r) _ e)

  pub turned_none : (R : RowState → RowState → ℕ → Key → Type 0) (keys : List Key) → Turns R (Between 0 0 keys) s s
  turned_none R keys = record {
    others = λ row none. same_row s row;
    own = λ row key e b. let l = b.2 in absurd (omega arith);
    order = sym all_keyed;
  }

  module _ (R : RowState → RowState → ℕ → Key → Type 0) (x : Key) where
    -- no row has the key
    pub turns_none : IsRowOf s.slots x None → Turns R (Is x) s s
    turns_none missing = record {
      others = λ row none. same_row s row;
      own = λ row key e p. absurd (unheld s.slots x missing row (e ∙ ap Held p));
      order = sym all_keyed;
    }

    module _ (t : RowState) (row : ℕ) (has : IsRowOf s.slots x (Some row)) (own : R s t row x) where
      one_turn : ((r : ℕ) → r ≢ row → SameRow s t r) → t.used.listed ≡ filter (λ row. has_key (slot_of t.slots row)) s.used.listed → Turns R (Is x) s t
      one_turn others order = record {
        others = λ r none. others r (λ same. none x (ap (slot_of s.slots) same ∙ (has row).0 refl) refl);
        own = λ r key e p. subst (λ (k : Key). R s t r k) (sym p) (subst (λ (z : ℕ). R s t z x) (sym (only_row s.slots x row has r (e ∙ ap Held p))) own);
        order = order;
      }

      -- the row keeps its key
      pub turns_kept : t.slots ≡ s.slots → t.used ≡ s.used → ((r : ℕ) → r ≢ row → SameRow s t r) → Turns R (Is x) s t
      turns_kept slots used others = one_turn others (ap (λ u. u.listed) used ∙ (sym all_keyed ∙ ap (λ (z : List Slot). filter (λ r. has_key (slot_of z r)) s.used.listed) (sym slots)))

      -- the row loses its key
      pub turns_lost : has_key (slot_of t.slots row) ≡ false → t.used.listed ≡ without row s.used.listed → OnlyRow row s t → Turns R (Is x) s t
      turns_lost keyless listed only = one_turn only.others
          (listed ∙ sym (all_but (λ r. has_key (slot_of t.slots r)) row keyless s.used.listed (λ r e ne. ap has_key (only.others r ne).slot ∙ (agree r ∙ or_left (is_in s.used.listed r) _ e))))

-- each of the other keys has the row that it had
module _ (R : RowState → RowState → ℕ → Key → Type 0) (g : GoesOn R) (K : Key → Type 0) (s t : RowState) (a : Turns R K s t) (x : Key) (out : K x → ⊥) where
  held_still : (row : ℕ) → (slot_of s.slots row ≡ Held x) ↔ (slot_of t.slots row ≡ Held x)
  held_still row = (
    λ e. (a.others row (λ key f k. out (subst K (held_two (slot_of s.slots row) key x f e) k))).slot ∙ e,
    λ e. sym (a.others row (λ key f k. elim (g.key s t row key (a.own row key f k)) [
      | inl same ↦ out (subst K (held_two (slot_of t.slots row) key x (same ∙ f) e) k)
      | inr keyless ↦ true≢false (sym (ap has_key e) ∙ keyless)
    ])).slot ∙ e,
  )

  pub row_still : (found : Option ℕ) → IsRowOf s.slots x found → IsRowOf t.slots x found
  row_still found has row = (λ e. (held_still row).0 ((has row).0 e), λ e. (has row).1 ((held_still row).1 e))

-- one key more
module _ (R : RowState → RowState → ℕ → Key → Type 0) (g : GoesOn R) (keys : List Key) (i : ℕ) (x : Key) (here : slice_get keys i ≡ Some x) (distinct : AreDistinct keys) (s t u : RowState) (a : Turns R (Between 0 i keys) s t) (b : Turns R (Is x) t u) where
  latest : (row : ℕ) (key : Key) → slot_of s.slots row ≡ Held key → key ≡ x → R s u row key
  latest row key e p = let first : SameRow s t row = a.others row (λ k f bt. not_before keys i x here distinct k bt (held_two (slot_of s.slots row) k key f e ∙ p)) in
      g.before s t u row key first (b.own row key (first.slot ∙ e) p)

  earlier : (row : ℕ) (key : Key) → slot_of s.slots row ≡ Held key → (bt : Between 0 i keys key) → R s u row key
  earlier row key e bt = let r = a.own row key e bt in g.after s t u row key r (b.others row (λ k f p. elim (g.key s t row key r) [
    | inl same ↦ not_before keys i x here distinct key bt (held_two (slot_of t.slots row) key k (same ∙ e) f ∙ p)
    | inr keyless ↦ true≢false (sym (ap has_key f) ∙ keyless)
  ]))

  pub turned_more : Turns R (Between 0 (i + 1) keys) s u
  turned_more = record {
    others = λ row none. let first : SameRow s t row = a.others row (λ key e bt. let l = bt.2 in none key e (bt.0, bt.1, omega arith, bt.3)) in
        same_then s t u row first (b.others row (λ key e p. none key (sym first.slot ∙ e) (i, omega arith, omega arith, here ∙ ap Some (sym p))));
    own = λ row key e bt. elim (cases_eq bt.0 i) [
      | inl same ↦ latest row key e (same_Some key x (sym bt.3 ∙ (ap (slice_get keys) same ∙ here)))
      | inr ne ↦ let l = bt.2 in earlier row key e (bt.0, bt.1, omega arith, bt.3)
    ];
    order = order_then R (Is x) t u b s a.order;
  }
