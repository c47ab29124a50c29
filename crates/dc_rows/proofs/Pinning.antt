-- Rows are given keys and pins, and lose pins.
use Rattle.std.proofs.Common.{◌≡◌, ◌≢◌, ◌⊎◌, ℕ, ◌+◌, ◌-◌, ◌<◌, ◌==◌, Bool, true, false, not, if◌then◌else◌, List, ◌∷◌, length, take, get_or, slice_set, Option, Some, None, Result, Ok, Err, IfOk, IfSome, refl, sym, ap, ◌∙◌, subst, arith, inl, inr, nat_eq}
use Rattle.std.specs.List.{filter, count_by}
use Rattle.std.specs.FinMap as finmap
use Rattle.std.proofs.lemmas.Bool.{cases_eq, eqb-true, eq-eqb, ne_eqb}
use Rattle.std.proofs.lemmas.Option.{slice_get-get_or}
use Rattle.std.proofs.lemmas.List.Sums.{count_by_more_yes, count_by_more_no}
use Rattle.std.proofs.lemmas.Map.Keys.{any_passes_from_place}
use Rattle.dc_names.specs.declared.NoMemory.{NoMemory}
use Rattle.dc_plain.specs.Facts.{Key}
use Rattle.dc_row.specs.Spelling.{Spells}
use Rattle.dc_row.specs.declared.TheConstants.{EMPTY_ROW}
use Rattle.dc_index.specs.Slots.{Slot, slot_of}
use Rattle.dc_index.specs.Slots.Slot.{Holds as Held}
use Rattle.dc_shrink.specs.Listings.{Listing, listing, is_in, pins_of, without, dropped, with_pins, pinned_once, unpinned_once}
use Rattle.dc_shrink.specs.Uses.{KeepsUse, SetsUse}
use Rattle.dc_events.specs.Rows.{row_words}
use Rattle.dc_table.specs.RowStates.{RowState}
use Rattle.dc_rows.specs.Filling.{Emptied}
use Rattle.dc_rows.specs.RowChanges.{SameRow, KeepsWords, OnlyRow, IsEmpty, UnpinsRow, UnpinsAll, IsChosen, HasGot, Gets, IsFilled, PinsAnswered, SamePins}
use Rattle.dc_rows.proofs.Lists.{filter_past, without_twice, without_first, pins_dropped, pins_dropped_here, pins_with, pins_with_here}
use Rattle.dc_rows.proofs.SameRows.{same_then, empty_still, empties_row, row_dropped}

pub only_then : (s t u : RowState) (row : ℕ) → OnlyRow row s t → OnlyRow row t u → OnlyRow row s u
only_then s t u row a b = record { others = λ r ne. same_then s t u r (a.others r ne) (b.others r ne); order = b.order ∙ a.order }

words_then : (s t u : RowState) (row : ℕ) → KeepsWords s t row → KeepsWords t u row → KeepsWords s u row
words_then s t u row a b = record { words = b.words ∙ a.words; slot = b.slot ∙ a.slot; used = b.used ∙ a.used }

same_words : (s t : RowState) (row : ℕ) → SameRow s t row → KeepsWords s t row
same_words s t row a = record { words = a.words; slot = a.slot; used = a.used }

with_same_pins : (s t : RowState) (row : ℕ) → KeepsWords s t row → pins_of t.used row ≡ pins_of s.used row → SameRow s t row
with_same_pins s t row k e = record { words = k.words; slot = k.slot; pins = e; used = k.used }

-- only the pins of a row are others
module _ (s t : RowState) (row : ℕ) (words : t.words ≡ s.words) (slots : t.slots ≡ s.slots) (inuse : KeepsUse s.used t.used) where
  pub words_stay : (r : ℕ) → KeepsWords s t r
  words_stay r = record { words = ap (λ (ws : List ℕ). row_words ws r) words; slot = ap (λ (z : List Slot). slot_of z r) slots; used = inuse r }

  pub pins_only : ((r : ℕ) → r ≢ row → pins_of t.used r ≡ pins_of s.used r) → without row t.used.listed ≡ without row s.used.listed → OnlyRow row s t
  pins_only pins order = record { others = λ r ne. with_same_pins s t r (words_stay r) (pins r ne); order = order }

-- one pin less, and the list after that
module _ (u : Listing) (row : ℕ) where
  abbrev unpinned_if : Bool → Listing
  unpinned_if b = if b then listing u.rows (row ∷ u.listed) (finmap.remove u.pins row) else with_pins u row (pins_of u row - 1)

  fewer_here : (b : Bool) → (pins_of u row == 1) ≡ b → pins_of (unpinned_if b) row ≡ pins_of u row - 1
  fewer_here true e = let one : pins_of u row ≡ 1 = eqb-true (pins_of u row) 1 e in let none : pins_of (dropped u row) row ≡ 0 = pins_dropped_here u row in none ∙ omega arith
  fewer_here false e = pins_with_here u row (pins_of u row - 1)

  fewer_other : (b : Bool) (r : ℕ) → r ≢ row → pins_of (unpinned_if b) r ≡ pins_of u r
  fewer_other true r ne = pins_dropped u row r ne
  fewer_other false r ne = pins_with u row (pins_of u row - 1) r ne

  fewer_order : (b : Bool) → without row (unpinned_if b).listed ≡ without row u.listed
  fewer_order true = without_first row u.listed
  fewer_order false = without_twice row u.listed

-- a row loses a pin
module _ (s t : RowState) (row : ℕ) where
  pub unpins_one : t.words ≡ s.words → t.slots ≡ s.slots → t.used ≡ unpinned_once s.used row → KeepsUse s.used t.used → UnpinsRow row s t
  unpins_one words slots is inuse = record {
    pins = ap (λ (u : Listing). pins_of u row) is ∙ fewer_here s.used row (pins_of s.used row == 1) refl;
    own = inl (words_stay s t row words slots inuse row);
    only = pins_only s t row words slots inuse (λ r ne. ap (λ (u : Listing). pins_of u r) is ∙ fewer_other s.used row (pins_of s.used row == 1) r ne)
        (ap (λ (u : Listing). without row u.listed) is ∙ fewer_order s.used row (pins_of s.used row == 1));
  }

  pub unpins_last : row < length s.slots → Spells EMPTY_ROW None → Emptied s.words t.words s.slots t.slots row → t.used ≡ dropped s.used row → SetsUse row false s.used t.used → pins_of s.used row ≡ 1 → UnpinsRow row s t
  unpins_last below empty e used sets one = let x = empties_row s t row below empty e used sets in let none = x.own.unpinned in record {
    pins = omega arith;
    own = inr (x.own, one);
    only = x.only;
  }

-- the first n of the rows have lost a pin each
pub record UnpinsFirst (n : ℕ) (rows : List ℕ) (s t : RowState) : Type 0 where
  pub pins : (row : ℕ) → pins_of t.used row ≡ pins_of s.used row - count_by (nat_eq row) (take n rows)
  pub own : (row : ℕ) → KeepsWords s t row ⊎ (IsEmpty t row × (0 < pins_of s.used row))
  pub order : filter (λ row. not (is_in rows row)) t.used.listed ≡ filter (λ row. not (is_in rows row)) s.used.listed

pub unpins_all : (rows : List ℕ) (s t : RowState) (n : ℕ) → take n rows ≡ rows → UnpinsFirst n rows s t → UnpinsAll rows s t
unpins_all rows s t n all a = record { pins = λ row. a.pins row ∙ ap (λ (xs : List ℕ). pins_of s.used row - count_by (nat_eq row) xs) all; own = a.own; order = a.order }

module _ (rows : List ℕ) (n row : ℕ) (less : n < length rows) (is : get_or rows n 0 ≡ row) (s t u : RowState) (a : UnpinsFirst n rows s t) (b : UnpinsRow row t u) where
  fewer : (r : ℕ) → pins_of u.used r ≡ pins_of s.used r - count_by (nat_eq r) (take (n + 1) rows)
  fewer r = elim (cases_eq r row) [
    | inl same ↦ let more = count_by_more_yes (nat_eq r) rows n 0 less (eq-eqb r (get_or rows n 0) (same ∙ sym is)) in let before = a.pins r in
        let now : pins_of u.used r ≡ pins_of t.used r - 1 = subst (λ (k : ℕ). pins_of u.used k ≡ pins_of t.used k - 1) (sym same) b.pins in omega arith
    | inr ne ↦ let more = count_by_more_no (nat_eq r) rows n 0 less (ne_eqb r (get_or rows n 0) (λ e. ne (e ∙ is))) in let before = a.pins r in let now = (b.only.others r ne).pins in omega arith
  ]

  own_here : KeepsWords s u row ⊎ (IsEmpty u row × (0 < pins_of s.used row))
  own_here = elim b.own [
    | inl kept ↦ elim (a.own row) [
      | inl was ↦ inl (words_then s t u row was kept)
      | inr lost ↦ let none = lost.0.unpinned in let now = b.pins in inr (empty_still t u row (with_same_pins t u row kept (omega arith)) lost.0, lost.1)
    ]
    | inr lost ↦ let one = lost.1 in let before = a.pins row in inr (lost.0, omega arith)
  ]

  own_other : (r : ℕ) → r ≢ row → KeepsWords s u r ⊎ (IsEmpty u r × (0 < pins_of s.used r))
  own_other r ne = elim (a.own r) [
    | inl was ↦ inl (words_then s t u r was (same_words t u r (b.only.others r ne)))
    | inr lost ↦ inr (empty_still t u r (b.only.others r ne) lost.0, lost.1)
  ]

  pub unpins_more : UnpinsFirst (n + 1) rows s u
  unpins_more = let there : is_in rows row ≡ true = any_passes_from_place (nat_eq row) rows n row (slice_get-get_or rows n 0 less ∙ ap Some is) (eq-eqb row row refl) in
      let past = λ (xs : List ℕ). filter_past (λ r. not (is_in rows r)) row (ap not there) xs in record {
        pins = fewer;
        own = λ r. elim (cases_eq r row) [
          | inl same ↦ subst (λ (k : ℕ). KeepsWords s u k ⊎ (IsEmpty u k × (0 < pins_of s.used k))) (sym same) own_here
          | inr ne ↦ own_other r ne
        ];
        order = sym (past u.used.listed) ∙ (ap (filter (λ r. not (is_in rows r))) b.only.order ∙ (past t.used.listed ∙ a.order));
      }

-- the row that is chosen gets the key, and is filled or emptied
module _ (key : Key) (s m u : RowState) (row : ℕ) (chosen : IsChosen key s row) (below : row < length s.slots) (words : m.words ≡ s.words) (slots : m.slots ≡ slice_set s.slots row (Held key)) (used : m.used ≡ dropped s.used row) (sets : SetsUse row false s.used m.used) (only : OnlyRow row m u) (unpinned : pins_of u.used row ≡ 0) where
  all_only : OnlyRow row s u
  all_only = only_then s m u row (row_dropped s m row below (Held key) slots used sets (λ r ne. ap (λ (ws : List ℕ). row_words ws r) words)) only

  pub gets_chosen : (result : Result (Option ℕ) NoMemory) → IfOk result (λ found. IfSome found (IsFilled u.slots row key)) → Gets key 0 s u result
  gets_chosen (Ok (Some r)) got = let none : pins_of s.used row ≡ 0 = chosen.may.1 in subst (λ (k : ℕ). HasGot key 0 s u k) (sym got.0) record {
    has = subst (λ (k : ℕ). slot_of u.slots k ≡ Held key) got.0 got.1;
    pins = omega arith;
    own = inr chosen;
    only = all_only;
  }
  gets_chosen (Ok None) got = record { row = row; pins = unpinned ∙ sym chosen.may.1; own = inr chosen; only = all_only }
  gets_chosen (Err fault) got = record { row = row; pins = unpinned ∙ sym chosen.may.1; own = inr chosen; only = all_only }

-- the row that a key has got is pinned
module _ (key : Key) (s t u : RowState) (row : ℕ) (got : HasGot key 0 s t row) (words : u.words ≡ t.words) (slots : u.slots ≡ t.slots) (inuse : KeepsUse t.used u.used) where
  kept_own : KeepsWords s u row ⊎ IsChosen key s row
  kept_own = elim got.own [
    | inl was ↦ inl (words_then s t u row was (words_stay t u row words slots inuse row))
    | inr chosen ↦ inr chosen
  ]

  pub gets_pin : u.used ≡ pinned_once t.used row → HasGot key 1 s u row
  gets_pin is = let more : pins_of u.used row ≡ pins_of t.used row + 1 = ap (λ (z : Listing). pins_of z row) is ∙ pins_with_here t.used row (pins_of t.used row + 1) in let before = got.pins in record {
    has = ap (λ (z : List Slot). slot_of z row) slots ∙ got.has;
    pins = omega arith;
    own = kept_own;
    only = only_then s t u row got.only (pins_only t u row words slots inuse (λ r ne. ap (λ (z : Listing). pins_of z r) is ∙ pins_with t.used row (pins_of t.used row + 1) r ne)
        (ap (λ (z : Listing). without row z.listed) is ∙ without_twice row t.used.listed));
  }

none_came : (s t : RowState) (row : ℕ) → pins_of t.used row ≡ pins_of s.used row → OnlyRow row s t → SamePins s t
none_came s t row here only r = elim (cases_eq r row) [
  | inl same ↦ subst (λ (k : ℕ). pins_of t.used k ≡ pins_of s.used k) (sym same) here
  | inr ne ↦ (only.others r ne).pins
]

-- which pins have come when a key gets a row
pub gets_pins : (key : Key) (s t : RowState) (result : Result (Option ℕ) NoMemory) → Gets key 1 s t result → PinsAnswered s t result
gets_pins key s t (Ok (Some row)) got = record { one = got.pins; others = λ r ne. (got.only.others r ne).pins }
gets_pins key s t (Ok None) got = none_came s t got.row got.pins got.only
gets_pins key s t (Err fault) got = none_came s t got.row got.pins got.only

-- no pin has come or gone when a key gets a row and no pin
pub gets_no_pin : (key : Key) (s t : RowState) (result : Result (Option ℕ) NoMemory) → Gets key 0 s t result → SamePins s t
gets_no_pin key s t (Ok (Some row)) got = none_came s t row (let p = got.pins in omega arith) got.only
gets_no_pin key s t (Ok None) got = none_came s t got.row got.pins got.only
gets_no_pin key s t (Err fault) got = none_came s t got.row got.pins got.only
