-- One row more is filled and opened.
use Rattle.std.proofs.Common.{◌≡◌, ◌≢◌, ◌↔◌, ℕ, ◌+◌, ◌<◌, false, true≢false, List, slice_get, slice_set, Some, None, refl, sym, ap, ◌∙◌, subst, arith, length-set, get_or-set_same, get_or-set_other}
use Rattle.dc_plain.specs.Facts.{Key}
use Rattle.dc_plain.specs.Trees.{Tree}
use Rattle.dc_index.specs.Slots.{Slot, slot_of, cleared, IsRowOf}
use Rattle.dc_index.specs.Slots.Slot.{Free, Holds as Held}
use Rattle.dc_shrink.specs.Listings.{Listing}
use Rattle.dc_shrink.specs.Uses.{SetsUse}
use Rattle.dc_ops.specs.Keys.{AreDistinct}
use Rattle.dc_row.specs.Spelling.{Spells}
use Rattle.dc_row.specs.declared.TheConstants.{EMPTY_ROW}
use Rattle.dc_events.specs.Rows.{row_words}
use Rattle.dc_table.specs.Rows.{At, is_retired, IsOdd, FitsSlot, IsOf, MayStand}
use Rattle.dc_rows.specs.Narrow.{ZeroFrom, HasFrom, most_words}
use Rattle.dc_rows.specs.Rows.{Between, Stage, Wrote}
use Rattle.dc_rows.proofs.Cells.{spells_too}
use Rattle.dc_rows.proofs.Narrow.{fits_narrow, has_zeros, narrow_moved, past_empty, past_nothing}
use Rattle.dc_rows.proofs.Slots.{held_two, held_inside, held_within, keyless_held, only_row, unheld, at_for, moved, rest_less, agrees}

-- what an odd row may be opened with
module _ (t : Tree) (words : List ℕ) (slots : List Slot) (x : Key) (row : ℕ) (held : slot_of slots row ≡ Held x) (odd : IsOdd (row_words words row)) where
  pub may_tell : (own : List ℕ) → IsOf t own x → MayStand t words row own
  may_tell own of = record { fact = Some of.fact; spelled = of.spelled; now = of.now; last = λ e. let l = odd.1 in absurd (omega arith) }

  -- past the words of its key the row is zero, and so are words that tell of the key
  module _ (narrow : ZeroFrom (most_words (slot_of slots row)) (row_words words row)) (end : ℕ) (is : end ≡ most_words (slot_of slots row)) where
    zero_row : ZeroFrom end (row_words words row)
    zero_row = subst (λ (e : ℕ). ZeroFrom e (row_words words row)) (sym is) narrow

    pub has_own : (own : List ℕ) → IsOf t own x → HasFrom end words row own
    has_own own of = has_zeros words row own end (omega arith) zero_row (subst (λ (e : ℕ). ZeroFrom e own) (sym (is ∙ ap most_words held)) (fits_narrow t own (Held x) of))

    pub has_nothing : HasFrom end words row EMPTY_ROW
    has_nothing = has_zeros words row EMPTY_ROW end (omega arith) zero_row (past_empty end)

module _ (t : Tree) (rows : ℕ) (words : List ℕ) (slots : List Slot) (used : Listing) (i n : ℕ) (keys : List Key) (x : Key) (less : i < n) (here : slice_get keys i ≡ Some x) (s : Stage t rows words slots used i n keys) where
  -- no row has the key
  pub none_less : IsRowOf slots x None → Stage t rows words slots used (i + 1) n keys
  none_less missing = record {
    fit = s.fit;
    rest = λ r l. at_for t (Between i n keys) (Between (i + 1) n keys) (row_words words r) (slot_of slots r)
        (λ key e. rest_less keys i x key here (λ same. unheld slots x missing r (e ∙ ap Held same)) n) (s.rest r l);
    narrow = s.narrow;
  }

  module _ (row : ℕ) (has : IsRowOf slots x (Some row)) where
    held : slot_of slots row ≡ Held x
    held = (has row).0 refl

    inside : row < rows
    inside = held_inside rows words slots used row x s.fit held

    pub odd_row : IsOdd (row_words words row)
    odd_row = (s.rest row inside).odd x held (i, omega arith, less, here)

    pub narrow_row : ZeroFrom (most_words (slot_of slots row)) (row_words words row)
    narrow_row = s.narrow row inside

    module _ (distinct : AreDistinct keys) (u : List ℕ) where
      other_key : (r : ℕ) (key : Key) → r ≢ row → slot_of slots r ≡ Held key → Between i n keys key ↔ Between (i + 1) n keys key
      other_key r key ne f = rest_less keys i x key here (λ same. ne (only_row slots x row has r (f ∙ ap Held same))) n

      -- the key itself isn't left
      past : Between (i + 1) n keys x → ⊥
      past b = let eq = distinct b.0 i x b.3 here in let l = b.1 in absurd (omega arith)

      pub filled : (own : List ℕ) → IsOf t own x → Wrote words u row own 1 → Stage t rows u slots used (i + 1) n keys
      filled own of w = let c = w.count in let o = odd_row.0 in let l = odd_row.1 in
          let told : FitsSlot t (row_words u row) (Held x) = record { fact = of.fact; about = of.about; now = of.now; spelled = spells_too u own row (Some of.fact) of.spelled w.own } in record {
            fit = record { indexed = s.fit.indexed; listed = s.fit.listed; agree = s.fit.agree; size = w.size ∙ s.fit.size };
            rest = moved t rows words u slots slots (Between i n keys) (Between (i + 1) n keys) row w.others (λ r ne. refl) other_key record {
              odd = λ key f b. absurd (past (subst (λ (k : Key). Between (i + 1) n keys k) (held_two (slot_of slots row) key x f held) b));
              even = λ none. omega arith;
              fits = λ even. ∣ subst (λ (slot : Slot). FitsSlot t (row_words u row) slot) (sym held) told ∣₁;
              ended = (λ gone. absurd (true≢false (sym gone ∙ ap is_retired held)), λ full. absurd (omega arith));
            } s.rest;
            narrow = narrow_moved rows words u slots slots row w.others (λ r ne. refl) (subst (λ (slot : Slot). ZeroFrom (most_words slot) (row_words u row)) (sym held) (fits_narrow t (row_words u row) (Held x) told)) s.narrow;
          }

      -- no row can tell the fact: the row is empty and free
      pub emptied : (ss : List Slot) (after : Listing) → Spells EMPTY_ROW None → Wrote words u row EMPTY_ROW 1 → ss ≡ slice_set slots row (cleared (slot_of slots row)) → after.rows ≡ used.rows → SetsUse row false used after → Stage t rows u ss after (i + 1) n keys
      emptied ss after empty w es rows_stay sets = let c = w.count in let o = odd_row.0 in let l = odd_row.1 in let below = held_within slots row x held in
          let gone : slot_of (slice_set slots row Free) row ≡ Free = get_or-set_same slots row Free Free below in
          let is : ss ≡ slice_set slots row Free = es ∙ ap (λ (slot : Slot). slice_set slots row (cleared slot)) held in
          subst (λ (z : List Slot). Stage t rows u z after (i + 1) n keys) (sym is) record {
            fit = record { indexed = length-set slots row Free ∙ s.fit.indexed; listed = rows_stay ∙ s.fit.listed; agree = agrees slots used after row Free false below refl sets s.fit.agree; size = w.size ∙ s.fit.size };
            rest = moved t rows words u slots (slice_set slots row Free) (Between i n keys) (Between (i + 1) n keys) row w.others (λ r ne. get_or-set_other slots row r Free Free ne) other_key
                (subst (λ (slot : Slot). At t (Between (i + 1) n keys) (row_words u row) slot) (sym gone) record {
                  odd = λ key f b. absurd (keyless_held Free key refl f);
                  even = λ none. omega arith;
                  fits = λ even. ∣ spells_too u EMPTY_ROW row None empty w.own ∣₁;
                  ended = (λ now. absurd (true≢false (sym now)), λ full. absurd (omega arith));
                }) s.rest;
            narrow = narrow_moved rows words u slots (slice_set slots row Free) row w.others (λ r ne. get_or-set_other slots row r Free Free ne) (past_nothing (row_words u row) (spells_too u EMPTY_ROW row None empty w.own) _) s.narrow;
          }
