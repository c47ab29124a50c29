-- Rows that are as they were, and rows that are emptied.
use Rattle.std.proofs.Common.{◌≡◌, ◌≢◌, ◌↔◌, ℕ, ◌+◌, ◌-◌, ◌<◌, ◌≤◌, true, false, List, length, take, slice_set, get_or, Some, None, refl, sym, ap, ◌∙◌, subst, subst₂, arith, inl, inr, nat_eq, length-take, get_or-set_same, get_or-set_other}
use Rattle.std.specs.List.{IsDistinct}
use Rattle.std.proofs.lemmas.Bool.{cases_eq, or_parts}
use Rattle.std.proofs.lemmas.List.{take-take}
use Rattle.std.proofs.lemmas.Map.Keys.{any_passes_from_place}
use Rattle.std.proofs.lemmas.Option.{slice_get_within}
use Rattle.std.proofs.lemmas.Bool.{eq-eqb}
use Rattle.dc_row.specs.Spelling.{Spells}
use Rattle.dc_row.specs.declared.TheConstants.{EMPTY_ROW}
use Rattle.dc_index.specs.Slots.{Slot, slot_of, has_key}
use Rattle.dc_index.specs.Slots.Slot.{Free}
use Rattle.dc_shrink.specs.Listings.{Listing, is_in, dropped, last_of, pins_of, without}
use Rattle.dc_shrink.specs.Uses.{SetsUse}
use Rattle.dc_events.specs.Rows.{most, count, row_words}
use Rattle.dc_table.specs.Rows.{is_retired}
use Rattle.dc_table.specs.RowStates.{RowState}
use Rattle.dc_rows.specs.Filling.{Emptied}
use Rattle.dc_rows.specs.RowChanges.{SameRow, OnlyRow, IsEmpty, EmptiesRow, EmptiesLast}
use Rattle.dc_rows.proofs.Cells.{spells_none}
use Rattle.dc_rows.proofs.Lists.{without_twice, without_absent, without_last, in_take, pins_unused, pins_dropped}

pub same_row : (s : RowState) (row : ℕ) → SameRow s s row
same_row s row = record { words = refl; slot = refl; pins = refl; used = refl }

pub same_then : (s t u : RowState) (row : ℕ) → SameRow s t row → SameRow t u row → SameRow s u row
same_then s t u row a b = record { words = b.words ∙ a.words; slot = b.slot ∙ a.slot; pins = b.pins ∙ a.pins; used = b.used ∙ a.used }

pub empty_still : (s t : RowState) (row : ℕ) → SameRow s t row → IsEmpty s row → IsEmpty t row
empty_still s t row a e = record {
  keyless = ap has_key a.slot ∙ e.keyless;
  nothing = subst (λ (ws : List ℕ). Spells ws None) (sym a.words) e.nothing;
  unused = a.used ∙ e.unused;
  unpinned = a.pins ∙ e.unpinned;
  ended = subst₂ (λ (slot : Slot) (ws : List ℕ). (is_retired slot ≡ true) ↔ (most ≤ get_or ws 0 0)) (sym a.slot) (sym a.words) e.ended;
}

-- a row gets a slot without a key, and goes out of use
module _ (s t : RowState) (row : ℕ) (below : row < length s.slots) (slot : Slot) (is : t.slots ≡ slice_set s.slots row slot) (used : t.used ≡ dropped s.used row) (sets : SetsUse row false s.used t.used) where
  here : slot_of t.slots row ≡ slot
  here = ap (λ (z : List Slot). slot_of z row) is ∙ get_or-set_same s.slots row slot Free below

  pub row_emptied : has_key slot ≡ false → Spells (row_words t.words row) None → ((is_retired slot ≡ true) ↔ (most ≤ count t.words row)) → IsEmpty t row
  row_emptied keyless nothing ended = record {
    keyless = ap has_key here ∙ keyless;
    nothing = nothing;
    unused = sets.here;
    unpinned = pins_unused t.used row sets.here;
    ended = subst (λ (z : Slot). (is_retired z ≡ true) ↔ (most ≤ count t.words row)) (sym here) ended;
  }

  pub row_dropped : ((r : ℕ) → r ≢ row → row_words t.words r ≡ row_words s.words r) → OnlyRow row s t
  row_dropped others = record {
    others = λ r ne. record {
      words = others r ne;
      slot = ap (λ (z : List Slot). slot_of z r) is ∙ get_or-set_other s.slots row r slot Free ne;
      pins = ap (λ (u : Listing). pins_of u r) used ∙ pins_dropped s.used row r ne;
      used = sets.others r ne;
    };
    order = ap (λ (u : Listing). without row u.listed) used ∙ without_twice row s.used.listed;
  }

-- a row was emptied and taken out of use
pub empties_row : (s t : RowState) (row : ℕ) → row < length s.slots → Spells EMPTY_ROW None → Emptied s.words t.words s.slots t.slots row → t.used ≡ dropped s.used row → SetsUse row false s.used t.used → EmptiesRow row s t
empties_row s t row below empty e used sets = record {
  counted = e.redone.counted;
  own = row_emptied s t row below e.slot e.is used sets (elim e.keyless [ inl f ↦ ap has_key f | inr f ↦ ap has_key f ]) (spells_none t.words row e.more empty e.redone.own) e.ended;
  only = row_dropped s t row below e.slot e.is used sets e.redone.others;
}

-- the least recently used is emptied too
module _ (n : ℕ) (s t u : RowState) (row : ℕ) (e : EmptiesLast n s t) (some : n ≤ length s.used.listed) (distinct : IsDistinct nat_eq t.used.listed) (last : last_of t.used.listed ≡ Some row) (x : EmptiesRow row t u) where
  held : length t.used.listed ≡ length s.used.listed - n
  held = ap length e.listed ∙ (length-take (length s.used.listed - n) s.used.listed ∙ omega arith)

  there : length t.used.listed - 1 < length t.used.listed
  there = slice_get_within t.used.listed (length t.used.listed - 1) row last

  pub some_more : n + 1 ≤ length s.used.listed
  some_more = let h = held in let t = there in omega arith

  listed_now : u.used.listed ≡ take (length s.used.listed - (n + 1)) s.used.listed
  listed_now = let h = held in let l = there in let at : ℕ = length t.used.listed - 1 in let few : at ≤ length s.used.listed - n = omega arith in let one : at + 1 ≡ length t.used.listed = omega arith in let same : at ≡ length s.used.listed - (n + 1) = omega arith in
      sym (without_absent row u.used.listed (or_parts (is_in u.used.listed row) _ x.own.unused).0)
      ∙ (x.only.order ∙ (without_last row t.used.listed at one last distinct
      ∙ (ap (take at) e.listed ∙ (take-take at (length s.used.listed - n) s.used.listed few ∙ ap (λ m. take m s.used.listed) same))))

  was_listed : is_in s.used.listed row ≡ true
  was_listed = in_take (length s.used.listed - n) s.used.listed row (subst (λ (l : List ℕ). is_in l row ≡ true) e.listed (any_passes_from_place (nat_eq row) t.used.listed (length t.used.listed - 1) row last (eq-eqb row row refl)))

  pub emptied_more : EmptiesLast (n + 1) s u
  emptied_more = record {
    listed = listed_now;
    rows = λ r. elim (cases_eq r row) [
      | inl same ↦ inr (subst (λ (k : ℕ). (is_in s.used.listed k ≡ true) × IsEmpty u k) (sym same) (was_listed, x.own))
      | inr ne ↦ elim (e.rows r) [
        | inl kept ↦ inl (same_then s t u r kept (x.only.others r ne))
        | inr lost ↦ inr (lost.0, empty_still t u r (x.only.others r ne) lost.1)
      ]
    ];
  }
