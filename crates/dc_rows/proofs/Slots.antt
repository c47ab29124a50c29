-- Which rows are odd, as one row changes.
use Rattle.std.proofs.Common.{◌≡◌, ◌≢◌, ◌↔◌, ℕ, ◌+◌, ◌<◌, Bool, false, List, length, slice_get, slice_set, Some, None, refl, sym, ap, ◌∙◌, subst, subst₂, arith, inl, inr, true≢false, get_or-set_other, get_or-set_same}
use Rattle.std.proofs.lemmas.Bool.{cases_eq, cases_lt}
use Rattle.std.proofs.lemmas.List.{get_or_past}
use Rattle.std.proofs.lemmas.Option.{none-some, same_Some}
use Rattle.dc_plain.specs.Facts.{Key}
use Rattle.dc_plain.specs.Trees.{Tree}
use Rattle.dc_index.specs.Slots.{Slot, slot_of, has_key, IsRowOf}
use Rattle.dc_index.specs.Slots.Slot.{Free, Retired, Holds as Held}
use Rattle.dc_shrink.specs.Listings.{Listing, is_used}
use Rattle.dc_shrink.specs.Uses.{SetsUse}
use Rattle.dc_events.specs.Rows.{row_words}
use Rattle.dc_table.specs.Rows.{At, OnlyOdd, Agree, Fit}
use Rattle.dc_rows.specs.Rows.{Between}

-- the key of a slot
abbrev key_in : Slot → Key → Key
key_in Free key = key
key_in Retired key = key
key_in (Held key) _ = key

pub held_two : (slot : Slot) (a b : Key) → slot ≡ Held a → slot ≡ Held b → a ≡ b
held_two slot a b e f = ap (λ s. key_in s a) (sym e ∙ f)

pub keyless_held : (slot : Slot) (key : Key) → has_key slot ≡ false → slot ≡ Held key → ⊥
keyless_held slot key none e = true≢false (sym (ap has_key e) ∙ none)

-- a key that no row has
pub unheld : (slots : List Slot) (key : Key) → IsRowOf slots key None → (row : ℕ) → slot_of slots row ≡ Held key → ⊥
unheld slots key missing row e = none-some row ((missing row).1 e)

-- and one that one row has
pub only_row : (slots : List Slot) (key : Key) (row : ℕ) → IsRowOf slots key (Some row) → (r : ℕ) → slot_of slots r ≡ Held key → r ≡ row
only_row slots key row has r e = let same = (has r).1 e in cc

-- which loses it
pub none_left : (slots : List Slot) (key : Key) (row : ℕ) → IsRowOf slots key (Some row) → row < length slots → IsRowOf (slice_set slots row Retired) key None
none_left slots key row has below r = (
  λ e. absurd (none-some r e),
  λ e. elim (cases_eq r row) [
    | inl same ↦ absurd (keyless_held Retired key refl (sym (get_or-set_same slots row Retired Free below) ∙ (ap (slot_of (slice_set slots row Retired)) (sym same) ∙ e)))
    | inr ne ↦ absurd (ne (only_row slots key row has r (sym (get_or-set_other slots row r Retired Free ne) ∙ e)))
  ],
)

pub held_within : (slots : List Slot) (row : ℕ) (key : Key) → slot_of slots row ≡ Held key → row < length slots
held_within slots row key e = elim (cases_lt row (length slots)) [
  | inl l ↦ l
  | inr out ↦ absurd (keyless_held Free key refl (sym (get_or_past slots row Free out) ∙ e))
]

-- a row of the table
pub held_inside : (rows : ℕ) (words : List ℕ) (slots : List Slot) (used : Listing) (row : ℕ) (key : Key) → Fit rows words slots used → slot_of slots row ≡ Held key → row < rows
held_inside rows words slots used row key fit held = subst (λ (n : ℕ). row < n) fit.indexed (held_within slots row key held)

-- a row for other keys, of which its own is or isn't one
pub at_for : (t : Tree) (P Q : Key → Type 0) (row : List ℕ) (slot : Slot) → ((key : Key) → slot ≡ Held key → P key ↔ Q key) → At t P row slot → At t Q row slot
at_for t P Q row slot same a = record {
  odd = λ key e q. a.odd key e ((same key e).1 q);
  even = λ none. a.even (λ key e p. none key e ((same key e).0 p));
  fits = a.fits;
  ended = a.ended;
}

-- one row changes, and the others have other keys
pub moved : (t : Tree) (rows : ℕ) (words ws : List ℕ) (slots ss : List Slot) (P Q : Key → Type 0) (row : ℕ)
    → ((r : ℕ) → r ≢ row → row_words ws r ≡ row_words words r)
    → ((r : ℕ) → r ≢ row → slot_of ss r ≡ slot_of slots r)
    → ((r : ℕ) (key : Key) → r ≢ row → slot_of slots r ≡ Held key → P key ↔ Q key)
    → At t Q (row_words ws row) (slot_of ss row)
    → OnlyOdd t rows words slots P → OnlyOdd t rows ws ss Q
moved t rows words ws slots ss P Q row others beside same here o r l = elim (cases_eq r row) [
  | inl e ↦ subst (λ (x : ℕ). At t Q (row_words ws x) (slot_of ss x)) (sym e) here
  | inr ne ↦ subst₂ (λ (x : List ℕ) (y : Slot). At t Q x y) (sym (others r ne)) (sym (beside r ne)) (at_for t P Q (row_words words r) (slot_of slots r) (λ key e. same r key ne e) (o r l))
]

-- one place more at the end, or one less at the head, makes no difference to another key
module _ (keys : List Key) (i : ℕ) (x key : Key) (here : slice_get keys i ≡ Some x) (other : key ≢ x) where
  pub first_more : Between 0 i keys key ↔ Between 0 (i + 1) keys key
  first_more = (
    λ b. let l = b.2 in (b.0, b.1, omega arith, b.3),
    λ b. elim (cases_eq b.0 i) [
      | inl e ↦ absurd (other (same_Some key x (sym b.3 ∙ (ap (slice_get keys) e ∙ here))))
      | inr ne ↦ let l = b.2 in (b.0, b.1, omega arith, b.3)
    ],
  )

  pub rest_less : (n : ℕ) → Between i n keys key ↔ Between (i + 1) n keys key
  rest_less n = (
    λ b. elim (cases_eq b.0 i) [
      | inl e ↦ absurd (other (same_Some key x (sym b.3 ∙ (ap (slice_get keys) e ∙ here))))
      | inr ne ↦ let l = b.1 in (b.0, omega arith, b.2, b.3)
    ],
    λ b. let l = b.1 in (b.0, omega arith, b.2, b.3),
  )

-- a row's slot and its use go together
pub agrees : (slots : List Slot) (was used : Listing) (row : ℕ) (slot : Slot) (b : Bool) → row < length slots → has_key slot ≡ b → SetsUse row b was used → Agree slots was → Agree (slice_set slots row slot) used
agrees slots was used row slot b below is sets agree r = elim (cases_eq r row) [
  | inl e ↦ subst (λ (k : ℕ). has_key (slot_of (slice_set slots row slot) k) ≡ is_used used k) (sym e) (ap has_key (get_or-set_same slots row slot Free below) ∙ (is ∙ sym sets.here))
  | inr ne ↦ ap has_key (get_or-set_other slots row r slot Free ne) ∙ (agree r ∙ sym (sets.others r ne))
]
