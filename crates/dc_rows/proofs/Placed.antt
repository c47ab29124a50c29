-- A row is written anew, and gets another slot.
use Rattle.std.proofs.Common.{◌≡◌, ◌↔◌, ℕ, ◌%◌, ◌-◌, ◌<◌, ◌≤◌, Bool, true, false, List, length, slice_set, Option, Some, None, is_some, refl, sym, ap, ◌∙◌, subst, arith, ⊎_elim, nat_eq, true≢false, length-set, set-set, get_or-set_same, get_or-set_other}
use Rattle.std.proofs.lemmas.Bool.{cases_lt, eq-eqb, or_left, or_right}
use Rattle.std.proofs.lemmas.List.{get_or_past}
use Rattle.std.proofs.lemmas.Map.Keys.{any_passes_from_place}
use Rattle.std.specs.Option.{unwrap_or}
use Rattle.dc_plain.specs.Facts.{Key}
use Rattle.dc_plain.specs.Trees.{Tree}
use Rattle.dc_row.specs.Spelling.{Spells}
use Rattle.dc_row.specs.Narrow.{told_words, RowsEndInZeros}
use Rattle.dc_names.specs.declared.limits.TheConstants.{ROW_WORDS}
use Rattle.dc_row.specs.declared.TheConstants.{EMPTY_ROW}
use Rattle.dc_index.specs.Slots.{Slot, slot_of, has_key}
use Rattle.dc_index.specs.Slots.Slot.{Free, Retired, Holds as Held}
use Rattle.dc_shrink.specs.Listings.{Listing, is_in, last_of, pins_of}
use Rattle.dc_shrink.specs.Uses.{SetsUse}
use Rattle.dc_events.specs.Rows.{most, count, row_words}
use Rattle.dc_table.specs.Rows.{At, is_retired, OfNone, Agree, FitsSlot, IsOf, Rest}
use Rattle.dc_rows.specs.Filling.{Redone, Emptied, Given}
use Rattle.dc_rows.specs.Narrow.{ZeroFrom, HasFrom, most_words}
use Rattle.dc_rows.proofs.Cells.{spells_none, spells_too}
use Rattle.dc_rows.proofs.Narrow.{has_zeros, past_empty, past_text, rest_narrow, zero_later}
use Rattle.dc_rows.proofs.Slots.{moved, agrees}

-- what a row was used for and is
pub then_use : (row : ℕ) (a b : Bool) (u v w : Listing) → SetsUse row a u v → SetsUse row b v w → SetsUse row b u w
then_use row a b u v w s t = record { here = t.here; others = λ r ne. t.others r ne ∙ s.others r ne }

pub keyed_within : (slots : List Slot) (row : ℕ) → has_key (slot_of slots row) ≡ true → row < length slots
keyed_within slots row e = ⊎_elim (λ (l : row < length slots). l) (λ (out : length slots ≤ row). absurd (true≢false (sym e ∙ ap has_key (get_or_past slots row Free out)))) (cases_lt row (length slots))

module _ (t : Tree) (rows : ℕ) (words : List ℕ) (slots : List Slot) (used : Listing) (s : Rest t rows words slots used) (row : ℕ) (below : row < length slots) where
  pub inside : row < rows
  inside = subst (λ (m : ℕ). row < m) s.fit.indexed below

  pub even_row : count words row % 2 ≡ 0
  even_row = (s.rest row inside).even (λ key e never. never)

  -- the row has other words and another slot, in use or not
  pub placed : (u : List ℕ) (own : List ℕ) (more : Bool) (slot : Slot) (after : Listing) (ss : List Slot) → Redone words u row own more → FitsSlot t (row_words u row) slot → (is_retired slot ≡ true) ↔ (most ≤ count u row)
      → SetsUse row (has_key slot) used after → after.rows ≡ used.rows → ss ≡ slice_set slots row slot → Rest t rows u ss after
  placed u own more slot after ss r fits ended sets same is = let n = r.counted in let even = even_row in let here : slot_of (slice_set slots row slot) row ≡ slot = get_or-set_same slots row slot Free below in
      subst (λ (z : List Slot). Rest t rows u z after) (sym is) record {
        fit = record { indexed = length-set slots row slot ∙ s.fit.indexed; listed = same ∙ s.fit.listed; agree = agrees slots used after row slot (has_key slot) below refl sets s.fit.agree; size = r.size ∙ s.fit.size };
        rest = moved t rows words u slots (slice_set slots row slot) OfNone OfNone row r.others (λ x ne. get_or-set_other slots row x slot Free ne) (λ x k ne f. ((λ p. p), λ p. p))
            (subst (λ (x : Slot). At t OfNone (row_words u row) x) (sym here) record {
              odd = λ k f b. absurd b;
              even = λ _. omega arith;
              fits = λ _. ∣ fits ∣₁;
              ended = ended;
            }) s.rest;
      }

  -- it was emptied
  pub placed_empty : Spells EMPTY_ROW None → (u : List ℕ) (ss : List Slot) (after : Listing) → Emptied words u slots ss row → SetsUse row false used after → after.rows ≡ used.rows → Rest t rows u ss after
  placed_empty empty u ss after e sets same = let sp = spells_none u row e.more empty e.redone.own in
      ⊎_elim (λ (f : e.slot ≡ Free). placed u EMPTY_ROW e.more e.slot after ss e.redone (subst (FitsSlot t (row_words u row)) (sym f) sp) e.ended (subst (λ b. SetsUse row b used after) (sym (ap has_key f)) sets) same e.is)
      (λ (f : e.slot ≡ Retired). placed u EMPTY_ROW e.more e.slot after ss e.redone (subst (FitsSlot t (row_words u row)) (sym f) sp) e.ended (subst (λ b. SetsUse row b used after) (sym (ap has_key f)) sets) same e.is) e.keyless

-- a row at rest, as it is emptied and as it is filled
module _ (t : Tree) (rows : ℕ) (words : List ℕ) (slots : List Slot) (used : Listing) (s : Rest t rows words slots used) (row : ℕ) where
  row_zero : row < length slots → ZeroFrom (most_words (slot_of slots row)) (row_words words row)
  row_zero below = rest_narrow t rows words slots used s row (subst (λ (m : ℕ). row < m) s.fit.indexed below)

  pub has_empty : row < length slots → (end : ℕ) → most_words (slot_of slots row) ≤ end → end ≤ ROW_WORDS → HasFrom end words row EMPTY_ROW
  has_empty below end past few = has_zeros words row EMPTY_ROW end few (zero_later _ end _ past (row_zero below)) (past_empty end)

  pub has_emptied : has_key (slot_of slots row) ≡ true → (end : ℕ) → end ≡ most_words (slot_of slots row) → HasFrom end words row EMPTY_ROW
  has_emptied keyed end is = has_empty (keyed_within slots row keyed) end (omega arith) (omega arith)

  pub has_told : RowsEndInZeros → row < length slots → (own : List ℕ) (key : Key) → IsOf t own key → (end : ℕ) → told_words own ≤ end → most_words (slot_of slots row) ≤ end → end ≤ ROW_WORDS → HasFrom end words row own
  has_told law below own key of end told past few = let size = (law own of.fact of.spelled).size in
      has_zeros words row own end few (zero_later _ end _ past (row_zero below)) (past_text own (Some of.fact) of.spelled end (omega arith))

-- the row that goes next has a key
pub victim_keyed : (slots : List Slot) (used : Listing) (row : ℕ) → Agree slots used → last_of used.listed ≡ Some row → has_key (slot_of slots row) ≡ true
victim_keyed slots used row agree h = agree row ∙ or_left (is_in used.listed row) _ (any_passes_from_place (nat_eq row) used.listed (length used.listed - 1) row h (eq-eqb row row refl))

-- a row that was given a key is written
module _ (t : Tree) (rows : ℕ) (words : List ℕ) (slots : List Slot) (before used : Listing) (row : ℕ) (key : Key) (g : Given t rows words slots before row key) (unused : SetsUse row false before used) (same_rows : used.rows ≡ before.rows) where
  over : (slot : Slot) (later : List Slot) → later ≡ slice_set slots row slot → later ≡ slice_set g.before_slots row slot
  over slot later e = e ∙ (ap (λ z. slice_set z row slot) g.given ∙ set-set g.before_slots row (Held key) slot)

  pub told_now : (u own : List ℕ) (after : Listing) → IsOf t own key → Redone words u row own true → SetsUse row true used after → after.rows ≡ used.rows → Rest t rows u slots after
  told_now u own after of r sets same = let n = r.counted in let few = r.further refl in
      placed t rows words g.before_slots before g.rest row g.inside u own true (Held key) after slots r
      record { fact = of.fact; about = of.about; now = of.now; spelled = spells_too u own row (Some of.fact) of.spelled r.own } (λ gone. absurd (true≢false (sym gone)), λ full. absurd (omega arith))
      (then_use row false true before used after unused sets) (same ∙ same_rows) g.given

  pub told_last : Spells EMPTY_ROW None → (u own : List ℕ) (between after : Listing) (ss : List Slot) → Redone words u row own false → SetsUse row true used between → SetsUse row false between after → after.rows ≡ used.rows
      → ss ≡ slice_set slots row Retired → Rest t rows u ss after
  told_last empty u own between after ss r taken left same is = let n = r.counted in let past = r.last refl in
      placed t rows words g.before_slots before g.rest row g.inside u own false Retired after ss r (spells_too u EMPTY_ROW row None empty r.own) (λ gone. omega arith, λ full. refl)
      (then_use row true false before between after (then_use row false true before used between unused taken) left) (same ∙ same_rows) (over Retired ss is)

  pub told_nothing : Spells EMPTY_ROW None → (u : List ℕ) (ss : List Slot) (after : Listing) → Emptied words u slots ss row → after ≡ used → Rest t rows u ss after
  told_nothing empty u ss after e same = placed_empty t rows words g.before_slots before g.rest row g.inside empty u ss after
      record { slot = e.slot; more = e.more; is = over e.slot ss e.is; keyless = e.keyless; redone = e.redone; ended = e.ended } (subst (λ z. SetsUse row false before z) (sym same) unused) (ap (λ (z : Listing). z.rows) same ∙ same_rows)

some_there : (o : Option ℕ) → 0 < unwrap_or o 0 → is_some o ≡ true
some_there None l = absurd (omega arith)
some_there (Some n) l = refl

-- a pinned row has a key
pub pinned_keyed : (slots : List Slot) (used : Listing) (row : ℕ) → Agree slots used → 0 < pins_of used row → has_key (slot_of slots row) ≡ true
pinned_keyed slots used row agree pins = agree row ∙ or_right (is_in used.listed row) _ (some_there _ pins)
