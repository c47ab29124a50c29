-- The rows of the first keys were turned on a pass that has done nothing else.
use Rattle.std.proofs.Common.{◌≡◌, ℕ, ◌+◌, ◌<◌, List, length, map, set, get_or, slice_get, option_map, Option, Some, None, refl, sym, ap, ◌∙◌, subst, arith, inl, inr, get_or-set_same, get_or-set_other}
use Rattle.std.proofs.lemmas.Bool.{cases_eq}
use Rattle.std.proofs.lemmas.Option.{get_or_from_slice_get, slice_get-get_or, slice_get-map, slice_get_read}
use Rattle.dc_plain.specs.KeysShown.{key_shown}
use Rattle.dc_plain.specs.declared.key.Key as rust_key
use Rattle.dc_plain.specs.Facts.{Key}
use Rattle.dc_ops.specs.Keys.{AreDistinct}
use Rattle.dc_index.specs.Hashed.{key_in}
use Rattle.dc_index.specs.Slots.{Slot, IsRowOf}
use Rattle.dc_table.specs.Holders.{pass_of, rows_held}
use Rattle.dc_table.specs.RowStates.{RowState}
use Rattle.dc_table.specs.declared.holder.Holder.{Holder}
use Rattle.dc_table.specs.declared.table.Guarded.{Guarded}
use Rattle.dc_rows.specs.Changes.{KeepsTree, OnlyWrites}
use Rattle.dc_rows.specs.OddRows.{AreFound, IsFound}
use Rattle.dc_rows.specs.declared.shutting.OddRow.{OddRow}
use Rattle.dc_rows.specs.Refills.{Is, Place, Turns, TurnsIn}
use Rattle.dc_rows.specs.Rows.{Between}
use Rattle.dc_rows.proofs.Stages.{kept_then, then_only}
use Rattle.dc_rows.proofs.Turning.{GoesOn, not_before, row_still, turned_more}

pub key_at : (keys : List rust_key.Key) (i : ℕ) (x : rust_key.Key) → i < length keys → x ≡ get_or keys i x → Place (map key_shown keys) i (key_shown x)
key_at keys i x less is = slice_get-map key_shown keys i ∙ ap (option_map key_shown) (slice_get_read keys (length keys) i x refl less is)

-- the rows with these keys were turned, and tree and pass are as they were but for words that were written
pub record Turned (R : RowState → RowState → ℕ → Key → Type 0) (K : Key → Type 0) (h : Holder) (x : Guarded) (j : Holder) (y : Guarded) : Type 0 where
  pub same_reference : j.pass.ghost_name ≡ h.pass.ghost_name
  pub pass : OnlyWrites (pass_of h) (pass_of j)
  pub tree : KeepsTree x y
  pub rows : TurnsIn R K h x j y

pub nothing_turned : {R : RowState → RowState → ℕ → Key → Type 0} {K : Key → Type 0} (h : Holder) (x : Guarded) → OnlyWrites (pass_of h) (pass_of h) → TurnsIn R K h x h x → Turned R K h x h x
nothing_turned h x pass rows = record { same_reference = refl; pass = pass; tree = record { tree = refl; clock = refl; same_limit = refl }; rows = rows }

-- one key more
pub one_turned : {R : RowState → RowState → ℕ → Key → Type 0} (keys : List Key) (i : ℕ) (x : Key) → Place keys i x → {h j k : Holder} {v y z : Guarded} → GoesOn R → AreDistinct keys
    → Turned R (Between 0 i keys) h v j y → Turned R (Is x) j y k z → Turned R (Between 0 (i + 1) keys) h v k z
one_turned {R} keys i x here {h} {j} {k} {v} {y} {z} goes distinct a b = record {
  same_reference = b.same_reference ∙ a.same_reference;
  pass = then_only (pass_of h) (pass_of j) (pass_of k) a.pass b.pass;
  tree = kept_then a.tree b.tree;
  rows = turned_more R goes keys i x here distinct (rows_held h v) (rows_held j y) (rows_held k z) a.rows b.rows;
}

-- the rows of the first keys are the same still, and that of one key more is this
pub found_more : {R : RowState → RowState → ℕ → Key → Type 0} (keys : List Key) (i : ℕ) (x : Key) → Place keys i x → GoesOn R → AreDistinct keys → (s t : RowState) → Turns R (Is x) s t
    → (rows : List (Option OddRow)) (odd : Option OddRow) → i < length rows → AreFound s.slots keys i rows → IsFound t.slots x odd → AreFound t.slots keys (i + 1) (set rows i odd)
found_more {R} keys i x here goes distinct s t b rows odd within found now j less = elim (cases_eq j i) [
  | inl same ↦ (x, ap (slice_get keys) same ∙ here, subst (λ (o : Option OddRow). IsFound t.slots x o) (sym (ap (λ k. get_or (set rows i odd) k None) same ∙ get_or-set_same rows i odd None within)) now)
  | inr ne ↦ let f = found j (omega arith) in let still : IsFound t.slots f.0 (get_or rows j None) = record {
    row = row_still R goes (Is x) s t b f.0 (λ e. not_before keys i x here distinct f.0 (j, omega arith, omega arith, f.1) e) _ f.2.row;
    key = f.2.key;
  } in
      (f.0, f.1, subst (λ (o : Option OddRow). IsFound t.slots f.0 o) (sym (get_or-set_other rows i j odd None ne)) still)
]

-- the row of the next key is the same still
pub found_still : {R : RowState → RowState → ℕ → Key → Type 0} (keys : List Key) (i n : ℕ) → GoesOn R → AreDistinct keys → (s t : RowState) → Turns R (Between 0 i keys) s t
    → (rows : List (Option OddRow)) (d found : Option OddRow) → i < n → i < length rows → get_or rows i d ≡ found → AreFound s.slots keys n rows → (key : Key) × Place keys i key × IsFound t.slots key found
found_still {R} keys i n goes distinct s t a rows d found less within is are = let f = are i less in (
  f.0,
  f.1,
  subst (λ (o : Option OddRow). IsFound t.slots f.0 o) (get_or_from_slice_get rows i (get_or rows i d) None (slice_get-get_or rows i d within) ∙ is) record {
    row = row_still R goes (Between 0 i keys) s t a f.0 (λ b. not_before keys i f.0 f.1 distinct f.0 b refl) _ f.2.row;
    key = f.2.key;
  },
)

-- and has its own key
pub found_some : (keys : List Key) (i : ℕ) (slots : List Slot) (odd : OddRow) → (key : Key) × Place keys i key × IsFound slots key (Some odd) → Place keys i (key_in odd.key) × IsRowOf slots (key_in odd.key) (Some odd.row)
found_some keys i slots odd f = (f.1 ∙ ap Some (sym f.2.key), subst (λ (key : Key). IsRowOf slots key (Some odd.row)) (sym f.2.key) f.2.row)
