-- One row more is shut.
use Rattle.std.proofs.Common.{◌≡◌, ◌≢◌, ◌↔◌, ℕ, ◌+◌, ◌%◌, ◌<◌, ◌≤◌, true, false, true≢false, List, length, set, slice_get, slice_set, Some, None, refl, sym, ap, ◌∙◌, subst, arith, ⊎_elim, suc-ne-zero, length-set, get_or-set_same, get_or-set_other}
use Rattle.dc_plain.specs.Facts.{Key}
use Rattle.dc_plain.specs.Trees.{Tree}
use Rattle.dc_index.specs.Slots.{Slot, slot_of, IsRowOf}
use Rattle.dc_index.specs.Slots.Slot.{Free, Retired, Holds as Held}
use Rattle.dc_shrink.specs.Listings.{Listing}
use Rattle.dc_shrink.specs.Uses.{SetsUse}
use Rattle.dc_ops.specs.Keys.{AreDistinct}
use Rattle.dc_row.specs.Spelling.{Spells}
use Rattle.dc_row.specs.declared.TheConstants.{EMPTY_ROW}
use Rattle.dc_events.specs.Rows.{most, base_of, count, row_words}
use Rattle.dc_table.specs.Rows.{At, is_retired}
use Rattle.dc_rows.specs.Narrow.{ZeroFrom, most_words}
use Rattle.dc_rows.specs.Rows.{Between, Stage, Wrote}
use Rattle.std.proofs.lemmas.Bool.{cases_lt}
use Rattle.dc_rows.proofs.Cells.{count_now, row_raised, spells_too}
use Rattle.dc_rows.proofs.Narrow.{narrow_moved, narrow_raised, past_nothing}
use Rattle.dc_rows.proofs.Slots.{held_two, held_inside, held_within, keyless_held, only_row, moved, first_more, agrees}
use Rattle.dc_rows.proofs.Turning.{not_before}

-- a row that isn't retired has a count that may still grow
pub below_end : (words : List ℕ) (row : ℕ) (slot : Slot) → is_retired slot ≡ false → ((is_retired slot ≡ true) ↔ (most ≤ count words row)) → count words row < most
below_end words row slot open_still ended = ⊎_elim (λ (l : count words row < most). l) (λ (full : most ≤ count words row). absurd (true≢false (sym (ended.1 full) ∙ open_still))) (cases_lt (count words row) most)

pub odd_even : (n : ℕ) → n % 2 ≡ 1 → n % 2 ≡ 0 → ⊥
odd_even n o e = suc-ne-zero 0 (sym o ∙ e)

module _ (t : Tree) (rows : ℕ) (words : List ℕ) (slots : List Slot) (used : Listing) (i : ℕ) (keys : List Key) (x : Key) (here : slice_get keys i ≡ Some x) (s : Stage t rows words slots used 0 i keys) where
  -- a row that has the key can be shut
  pub can_shut : AreDistinct keys → (row : ℕ) → slot_of slots row ≡ Held x → (count words row % 2 ≡ 0) × (count words row < most)
  can_shut distinct row held = let within = held_inside rows words slots used row x s.fit held in (
    (s.rest row within).even (λ key e b. not_before keys i x here distinct key b (held_two (slot_of slots row) key x e held)),
    below_end words row (slot_of slots row) (ap is_retired held) (s.rest row within).ended,
  )

-- the count of a row has grown by one
module _ (words : List ℕ) (rows row : ℕ) (within : row < rows) (size : length words ≡ base_of rows) (even : count words row % 2 ≡ 0) (low : count words row < most) (ws : List ℕ) (is : ws ≡ set words (base_of row) (count words row + 1)) where
  pub counted : count ws row ≡ count words row + 1
  counted = ap (λ z. count z row) is ∙ count_now words rows row (count words row + 1) within size

  pub odd_now : count ws row % 2 ≡ 1
  odd_now = let c = counted in omega arith

  pub low_odd : count ws row < most
  low_odd = let c = counted in omega arith

  pub sized : length ws ≡ base_of rows
  sized = ap length is ∙ (length-set words (base_of row) (count words row + 1) ∙ size)

  others : (r : ℕ) → r ≢ row → row_words ws r ≡ row_words words r
  others r ne = ap (λ z. row_words z r) is ∙ row_raised words row r (count words row + 1) ne

  module _ (t : Tree) (slots : List Slot) (used : Listing) (i : ℕ) (keys : List Key) (x : Key) (here : slice_get keys i ≡ Some x) (s : Stage t rows words slots used 0 i keys) (has : IsRowOf slots x (Some row)) where
    held : slot_of slots row ≡ Held x
    held = (has row).0 refl

    other_key : (r : ℕ) (key : Key) → r ≢ row → slot_of slots r ≡ Held key → Between 0 i keys key ↔ Between 0 (i + 1) keys key
    other_key r key ne f = first_more keys i x key here (λ same. ne (only_row slots x row has r (f ∙ ap Held same)))

    pub shut_more : count words row + 1 + 1 < most → Stage t rows ws slots used 0 (i + 1) keys
    shut_more few = let c = counted in record {
      fit = record { indexed = s.fit.indexed; listed = s.fit.listed; agree = s.fit.agree; size = sized };
      rest = moved t rows words ws slots slots (Between 0 i keys) (Between 0 (i + 1) keys) row others (λ r ne. refl) other_key record {
        odd = λ key f b. (odd_now, omega arith);
        even = λ none. absurd (none x held (i, omega arith, omega arith, here));
        fits = λ even. absurd (odd_even (count ws row) odd_now even);
        ended = (λ gone. absurd (true≢false (sym gone ∙ ap is_retired held)), λ full. absurd (omega arith));
      } s.rest;
      narrow = narrow_moved rows words ws slots slots row others (λ r ne. refl) (subst (λ (z : List ℕ). ZeroFrom (most_words (slot_of slots row)) (row_words z row)) (sym is) (narrow_raised words row (count words row + 1) _ (s.narrow row within))) s.narrow;
    }

    -- that was its last opening: it is empty, and has no key any more
    pub retired : most ≤ count words row + 1 + 1 → (u : List ℕ) (ss : List Slot) (after : Listing) → Spells EMPTY_ROW None → Wrote ws u row EMPTY_ROW 1 → ss ≡ slice_set slots row Retired → after.rows ≡ used.rows → SetsUse row false used after → Stage t rows u ss after 0 (i + 1) keys
    retired full u ss after empty w es rows_stay sets = let c = counted in let n = w.count in let below = held_within slots row x held in
        let gone : slot_of (slice_set slots row Retired) row ≡ Retired = get_or-set_same slots row Retired Free below in
        subst (λ (z : List Slot). Stage t rows u z after 0 (i + 1) keys) (sym es) record {
          fit = record { indexed = length-set slots row Retired ∙ s.fit.indexed; listed = rows_stay ∙ s.fit.listed; agree = agrees slots used after row Retired false below refl sets s.fit.agree; size = w.size ∙ sized };
          rest = moved t rows words u slots (slice_set slots row Retired) (Between 0 i keys) (Between 0 (i + 1) keys) row (λ r ne. w.others r ne ∙ others r ne) (λ r ne. get_or-set_other slots row r Retired Free ne) other_key
              (subst (λ (slot : Slot). At t (Between 0 (i + 1) keys) (row_words u row) slot) (sym gone) record {
                odd = λ key f b. absurd (keyless_held Retired key refl f);
                even = λ none. omega arith;
                fits = λ even. ∣ spells_too u EMPTY_ROW row None empty w.own ∣₁;
                ended = (λ gone. omega arith, λ past. refl);
              }) s.rest;
          narrow = narrow_moved rows words u slots (slice_set slots row Retired) row (λ r ne. w.others r ne ∙ others r ne) (λ r ne. get_or-set_other slots row r Retired Free ne)
              (past_nothing (row_words u row) (spells_too u EMPTY_ROW row None empty w.own) _) s.narrow;
        }
