-- A row of a change's key is shut, filled and opened.
use Rattle.std.proofs.Common.{◌≡◌, ◌≢◌, ℕ, ◌+◌, ◌<◌, ◌≤◌, false, true≢false, List, length, set, get_or, slice_set, Some, None, refl, sym, ap, ◌∙◌, subst, arith, inl, inr}
use Rattle.dc_plain.specs.Facts.{Key}
use Rattle.dc_plain.specs.Requests.{Request}
use Rattle.dc_plain.specs.Trees.{Tree}
use Rattle.dc_row.specs.Spelling.{Spells}
use Rattle.dc_row.specs.declared.TheConstants.{EMPTY_ROW}
use Rattle.dc_index.specs.Slots.{Slot, slot_of, has_key, cleared, IsRowOf}
use Rattle.dc_index.specs.Slots.Slot.{Free, Retired, Holds as Held}
use Rattle.dc_shrink.specs.Listings.{Listing, dropped, pins_of, is_used}
use Rattle.dc_shrink.specs.Uses.{SetsUse}
use Rattle.dc_events.specs.Rows.{most, base_of, count, row_words}
use Rattle.dc_table.specs.Rows.{Agree, IsOf}
use Rattle.dc_table.specs.RowStates.{RowState}
use Rattle.dc_rows.specs.Rows.{Wrote}
use Rattle.dc_rows.specs.RowChanges.{SameRow, KeepsPins, CanTell}
use Rattle.dc_rows.specs.Refills.{Turns, Shut, Refilled, Retold, Is}
use Rattle.dc_rows.proofs.Cells.{count_now, row_raised, spells_too}
use Rattle.dc_rows.proofs.Slots.{held_within}
use Rattle.dc_rows.proofs.SameRows.{same_then, empty_still, row_emptied, row_dropped}
use Rattle.dc_rows.proofs.Turning.{GoesOn, turns_kept, turns_lost, order_then}

count_same : (s t : RowState) (row : ℕ) → SameRow s t row → count t.words row ≡ count s.words row
count_same s t row a = ap (λ (ws : List ℕ). get_or ws 0 0) a.words

pins_before : (s t u : RowState) (row : ℕ) → SameRow s t row → KeepsPins t u row → KeepsPins s u row
pins_before s t u row a k = record { slot = k.slot ∙ a.slot; pins = k.pins ∙ a.pins; used = k.used ∙ a.used }

pins_after : (s t u : RowState) (row : ℕ) → KeepsPins s t row → SameRow t u row → KeepsPins s u row
pins_after s t u row k a = record { slot = a.slot ∙ k.slot; pins = a.pins ∙ k.pins; used = a.used ∙ k.used }

pub shut_goes : GoesOn Shut
shut_goes = record {
  before = λ s t u row key a r. let c = count_same s t row a in elim r [
    | inl k ↦ inl (pins_before s t u row a k.0, k.1 ∙ ap (λ n. n + 1) c)
    | inr e ↦ inr (e.0, e.1 ∙ ap (λ n. n + 2) c, e.2)
  ];
  after = λ s t u row key r a. let c = count_same t u row a in elim r [
    | inl k ↦ inl (pins_after s t u row k.0 a, c ∙ k.1)
    | inr e ↦ inr (empty_still t u row a e.0, c ∙ e.1, subst (λ (n : ℕ). most ≤ n) (sym c) e.2)
  ];
  key = λ s t row key r. elim r [ inl k ↦ inl k.0.slot | inr e ↦ inr e.0.keyless ];
}

pub refilled_goes : (tree : Tree) → GoesOn (Refilled tree)
refilled_goes tree = record {
  before = λ s t u row key a r. record {
    counted = r.counted ∙ ap (λ n. n + 1) (count_same s t row a);
    own = elim r.own [
      | inl k ↦ inl (pins_before s t u row a k.0, k.1)
      | inr e ↦ inr e
    ];
  };
  after = λ s t u row key r a. record {
    counted = count_same t u row a ∙ r.counted;
    own = elim r.own [
      | inl k ↦ inl (pins_after s t u row k.0 a, subst (λ (ws : List ℕ). IsOf tree ws key) (sym a.words) k.1)
      | inr e ↦ inr (empty_still t u row a e.0, e.1)
    ];
  };
  key = λ s t row key r. elim r.own [ inl k ↦ inl k.0.slot | inr e ↦ inr e.0.keyless ];
}

-- the rows are shut, the clock is written, and they are filled
module _ (tree : Tree) (K : Key → Type 0) (s m u : RowState) (history : List Request) (words : List ℕ) (a : Turns Shut K s m) (stay : (row : ℕ) → row_words words row ≡ row_words m.words row) (b : Turns (Refilled tree) K (record m { history = history; words = words }) u) where
  same : (row : ℕ) → SameRow m (record m { history = history; words = words }) row
  same row = record { words = stay row; slot = refl; pins = refl; used = refl }

  told : (row : ℕ) (key : Key) → slot_of s.slots row ≡ Held key → K key → Shut s m row key → Retold tree s u row key
  told row key e k shut = elim shut [
    | inl kept ↦ let r = b.own row key (kept.0.slot ∙ e) k in let c = kept.1 in let n = ap (λ (ws : List ℕ). get_or ws 0 0) (stay row) in let d = r.counted in record {
      counted = d ∙ (ap (λ z. z + 1) (n ∙ c) ∙ omega arith);
      own = elim r.own [
        | inl now ↦ inl (record { slot = now.0.slot ∙ kept.0.slot; pins = now.0.pins ∙ kept.0.pins; used = now.0.used ∙ kept.0.used }, now.1)
        | inr lost ↦ inr (lost.0, λ can. absurd (lost.1 can))
      ];
    }
    | inr lost ↦ let c : RowState = record m { history = history; words = words } in
        let later : SameRow c u row = b.others row (λ other f k. true≢false (sym (ap has_key f) ∙ lost.0.keyless)) in
        let all : SameRow m u row = same_then m c u row (same row) later in
        let n = count_same m u row all in record {
          counted = n ∙ lost.1;
          own = inr (empty_still m u row all lost.0, λ can. subst (λ (z : ℕ). most ≤ z) (sym n) lost.2);
        }
  ]

  pub retold : Turns (Retold tree) K s u
  retold = record {
    others = λ row none. let first = a.others row none in let c : RowState = record m { history = history; words = words } in
        same_then s c u row (same_then s m c row first (same row)) (b.others row (λ key e k. none key (sym first.slot ∙ e) k));
    own = λ row key e k. told row key e k (a.own row key e k);
    order = order_then (Refilled tree) K (record m { history = history; words = words }) u b s a.order;
  }

-- one row of a key changes
module _ (s t : RowState) (agree : Agree s.slots s.used) (x : Key) (row : ℕ) (has : IsRowOf s.slots x (Some row)) where
  held : slot_of s.slots row ≡ Held x
  held = (has row).0 refl

  same_keys : (slots : t.slots ≡ s.slots) (used : t.used ≡ s.used) → KeepsPins s t row
  same_keys slots used = record { slot = ap (λ (z : List Slot). slot_of z row) slots; pins = ap (λ (u : Listing). pins_of u row) used; used = ap (λ (u : Listing). is_used u row) used }

  others_same : t.slots ≡ s.slots → t.used ≡ s.used → ((r : ℕ) → r ≢ row → row_words t.words r ≡ row_words s.words r) → (r : ℕ) → r ≢ row → SameRow s t r
  others_same slots used words r ne = record { words = words r ne; slot = ap (λ (z : List Slot). slot_of z r) slots; pins = ap (λ (u : Listing). pins_of u r) used; used = ap (λ (u : Listing). is_used u r) used }

  pub shut_kept : (rows : ℕ) → row < rows → length s.words ≡ base_of rows → t.words ≡ set s.words (base_of row) (count s.words row + 1) → t.slots ≡ s.slots → t.used ≡ s.used → Turns Shut (Is x) s t
  shut_kept rows inside size words slots used = turns_kept s agree Shut x t row has
      (inl (same_keys slots used, ap (λ (z : List ℕ). count z row) words ∙ count_now s.words rows row (count s.words row + 1) inside size)) slots used
      (others_same slots used (λ r ne. ap (λ (z : List ℕ). row_words z r) words ∙ row_raised s.words row r (count s.words row + 1) ne))

  pub shut_lost : Spells EMPTY_ROW None → (rows : ℕ) → row < rows → length s.words ≡ base_of rows → (ws : List ℕ) → ws ≡ set s.words (base_of row) (count s.words row + 1) → Wrote ws t.words row EMPTY_ROW 1 → most ≤ count s.words row + 1 + 1
      → t.slots ≡ slice_set s.slots row Retired → t.used ≡ dropped s.used row → SetsUse row false s.used t.used → Turns Shut (Is x) s t
  shut_lost empty rows inside size ws words w full slots used sets = let below = held_within s.slots row x held in let n = w.count in
      let c : count ws row ≡ count s.words row + 1 = ap (λ (z : List ℕ). count z row) words ∙ count_now s.words rows row (count s.words row + 1) inside size in
      let now : count t.words row ≡ count s.words row + 2 = omega arith in let past : most ≤ count t.words row = omega arith in
      let own = row_emptied s t row below Retired slots used sets refl (spells_too t.words EMPTY_ROW row None empty w.own) (λ gone. past, λ high. refl) in
      turns_lost s agree Shut x t row has (inr (own, now, past)) own.keyless (ap (λ (u : Listing). u.listed) used)
      (row_dropped s t row below Retired slots used sets (λ r ne. w.others r ne ∙ (ap (λ (z : List ℕ). row_words z r) words ∙ row_raised s.words row r (count s.words row + 1) ne)))

  pub refilled_kept : (tree : Tree) (own : List ℕ) → IsOf tree own x → Wrote s.words t.words row own 1 → t.slots ≡ s.slots → t.used ≡ s.used → Turns (Refilled tree) (Is x) s t
  refilled_kept tree own of w slots used = turns_kept s agree (Refilled tree) x t row has
      record { counted = w.count; own = inl (same_keys slots used, record { fact = of.fact; about = of.about; now = of.now; spelled = spells_too t.words own row (Some of.fact) of.spelled w.own }) } slots used
      (others_same slots used w.others)

  pub refilled_lost : (tree : Tree) → Spells EMPTY_ROW None → (CanTell tree x → ⊥) → Wrote s.words t.words row EMPTY_ROW 1 → count s.words row + 1 < most
      → t.slots ≡ slice_set s.slots row (cleared (slot_of s.slots row)) → t.used ≡ dropped s.used row → SetsUse row false s.used t.used → Turns (Refilled tree) (Is x) s t
  refilled_lost tree empty cannot w low slots used sets = let below = held_within s.slots row x held in let n = w.count in
      let free : t.slots ≡ slice_set s.slots row Free = slots ∙ ap (λ (slot : Slot). slice_set s.slots row (cleared slot)) held in
      let own = row_emptied s t row below Free free used sets refl (spells_too t.words EMPTY_ROW row None empty w.own) (λ gone. absurd (true≢false (sym gone)), λ high. absurd (omega arith)) in
      turns_lost s agree (Refilled tree) x t row has record { counted = w.count; own = inr (own, cannot) } own.keyless (ap (λ (u : Listing). u.listed) used)
      (row_dropped s t row below Free free used sets w.others)
