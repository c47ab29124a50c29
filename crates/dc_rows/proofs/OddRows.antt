-- A row is shut, or filled and opened, on the pass of a change.
use Rattle.std.proofs.Common.{◌≡◌, ℕ, ◌+◌, ◌%◌, ◌<◌, ◌≤◌, false, List, set, slice_set, Some, None, refl, sym, ap, subst, arith}
use Rattle.dc_plain.specs.Facts.{Key}
use Rattle.dc_row.specs.Spelling.{Spells}
use Rattle.dc_row.specs.declared.TheConstants.{EMPTY_ROW}
use Rattle.dc_ops.specs.Keys.{AreDistinct}
use Rattle.dc_index.specs.Slots.{Slot, slot_of, cleared, IsRowOf}
use Rattle.dc_index.specs.Slots.Slot.{Retired}
use Rattle.dc_shrink.specs.Listings.{Listing, dropped}
use Rattle.dc_shrink.specs.Uses.{SetsUse}
use Rattle.dc_events.specs.Rows.{most, base_of, count}
use Rattle.dc_table.specs.Changes.{tree_now, words_of}
use Rattle.dc_table.specs.Holders.{Raises}
use Rattle.dc_table.specs.Passes.{Pass, view, share, CanShut}
use Rattle.dc_table.specs.Rows.{IsOf}
use Rattle.dc_table.specs.declared.table.Guarded.{Guarded}
use Rattle.dc_rows.specs.Changes.{OnlyWrites, StageAt}
use Rattle.dc_rows.specs.Guards.{rows_at}
use Rattle.dc_rows.specs.OddRows.{FitAt, IsFound}
use Rattle.dc_rows.specs.Refills.{Is, Place, Shut, Turns}
use Rattle.dc_rows.specs.Rows.{Stage, Wrote}
use Rattle.dc_rows.proofs.Refills.{filled, emptied}
use Rattle.dc_rows.proofs.Retelling.{shut_kept, shut_lost}
use Rattle.dc_rows.proofs.Shuts.{odd_now, low_odd, shut_more, retired}
use Rattle.dc_rows.proofs.Slots.{held_inside, held_within, none_left}
use Rattle.dc_rows.proofs.Stages.{on_pass, shut_words, then_only}

-- the row of the key is shut
module _ (p q : Pass) (x : Guarded) (key : Key) (row odd : ℕ) (fit : FitAt p x) (has : IsRowOf x.index key (Some row)) (can : CanShut (view p) row) (shut : Raises p q row odd) where
  pub inside : row < (share p).rows
  inside = held_inside (share p).rows (words_of p) x.index x.shrinker row key fit ((has row).0 refl)

  raised : words_of q ≡ set (words_of p) (base_of row) (count (words_of p) row + 1)
  raised = shut_words p q row odd shut.0 shut.1

  pub is_odd : count (words_of q) row % 2 ≡ 1
  is_odd = odd_now (words_of p) (share p).rows row inside fit.size can.even can.low (words_of q) raised

  pub is_low : count (words_of q) row < most
  is_low = low_odd (words_of p) (share p).rows row inside fit.size can.even can.low (words_of q) raised

  pub kept_next : OnlyWrites p q → odd + 1 < most → (keys : List Key) (i : ℕ) → Place keys i key → StageAt p x 0 i keys → StageAt q x 0 (i + 1) keys
  kept_next only few keys i here s = let n = shut.0 in on_pass p q only (words_of q) x.index x.shrinker 0 (i + 1) keys
      (shut_more (words_of p) (share p).rows row inside fit.size can.even can.low (words_of q) raised (tree_now p) x.index x.shrinker i keys key here s has (omega arith))

  pub kept_rows : Turns Shut (Is key) (rows_at p x) (rows_at q x)
  kept_rows = shut_kept (rows_at p x) (rows_at q x) fit.agree key row has (share p).rows inside fit.size raised refl refl

  -- that was its last opening
  module _ (u : Pass) (full : most ≤ odd + 1) (slots : List Slot) (used : Listing) (empty : Spells EMPTY_ROW None) (w : Wrote (words_of q) (words_of u) row EMPTY_ROW 1) (is : slots ≡ slice_set x.index row Retired) (gone : used ≡ dropped x.shrinker row) (unused : SetsUse row false x.shrinker used) where
    pub lost_next : OnlyWrites p q → OnlyWrites q u → (keys : List Key) (i : ℕ) → Place keys i key → StageAt p x 0 i keys → Stage (tree_now u) (share u).rows (words_of u) slots used 0 (i + 1) keys
    lost_next only later keys i here s = let n = shut.0 in on_pass p u (then_only p q u only later) (words_of u) slots used 0 (i + 1) keys
        (retired (words_of p) (share p).rows row inside fit.size can.even can.low (words_of q) raised (tree_now p) x.index x.shrinker i keys key here s has (omega arith) (words_of u) slots used empty w is (ap (λ (l : Listing). l.rows) gone) unused)

    pub lost_rows : Turns Shut (Is key) (rows_at p x) (record { history = (view u).hold.history; words = words_of u; slots = slots; used = used })
    lost_rows = let n = shut.0 in shut_lost (rows_at p x) (record { history = (view u).hold.history; words = words_of u; slots = slots; used = used }) fit.agree key row has empty (share p).rows inside fit.size (words_of q) raised w (omega arith) is gone unused

    pub lost_found : IsFound slots key None
    lost_found = record { row = subst (λ (z : List Slot). IsRowOf z key None) (sym is) (none_left x.index key row has (held_within x.index row key ((has row).0 refl))); key = tt }

-- the odd row of the key is filled or emptied, and opened
module _ (p u : Pass) (x : Guarded) (key : Key) (row : ℕ) (has : IsRowOf x.index key (Some row)) (only : OnlyWrites p u) where
  pub filled_next : (own : List ℕ) → IsOf (tree_now p) own key → Wrote (words_of p) (words_of u) row own 1
      → (keys : List Key) (i n : ℕ) → i < n → Place keys i key → AreDistinct keys → StageAt p x i n keys → StageAt u x (i + 1) n keys
  filled_next own of w keys i n less here distinct s = on_pass p u only (words_of u) x.index x.shrinker (i + 1) n keys
      (filled (tree_now p) (share p).rows (words_of p) x.index x.shrinker i n keys key less here s row has distinct (words_of u) own of w)

  pub emptied_next : (slots : List Slot) (used : Listing) → Spells EMPTY_ROW None → Wrote (words_of p) (words_of u) row EMPTY_ROW 1 → slots ≡ slice_set x.index row (cleared (slot_of x.index row)) → used ≡ dropped x.shrinker row → SetsUse row false x.shrinker used
      → (keys : List Key) (i n : ℕ) → i < n → Place keys i key → AreDistinct keys → StageAt p x i n keys → Stage (tree_now u) (share u).rows (words_of u) slots used (i + 1) n keys
  emptied_next slots used empty w is gone unused keys i n less here distinct s = on_pass p u only (words_of u) slots used (i + 1) n keys
      (emptied (tree_now p) (share p).rows (words_of p) x.index x.shrinker i n keys key less here s row has distinct (words_of u) slots used empty w is (ap (λ (l : Listing). l.rows) gone) unused)
