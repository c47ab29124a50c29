-- A row that was written whole can be opened.
use Rattle.std.proofs.Common.{ℕ, ◌+◌, ◌<◌, ◌≤◌, ◌%◌, List, sym, ap, ◌∙◌, subst, arith}
use Rattle.dc_plain.specs.Trees.{Tree}
use Rattle.dc_names.specs.declared.limits.TheConstants.{ROW_WORDS}
use Rattle.dc_events.specs.Rows.{most, count, row_words}
use Rattle.dc_table.specs.Changes.{tree_now, words_of}
use Rattle.dc_table.specs.Passes.{Pass, view, share, CanWrite, CanOpen}
use Rattle.dc_table.specs.Rows.{MayStand}
use Rattle.dc_rows.specs.Changes.{OnlyWrites}
use Rattle.dc_rows.specs.Rows.{Writing}
use Rattle.dc_rows.proofs.Cells.{spells_too}
use Rattle.dc_rows.proofs.Stages.{tree_same}

-- if the words that were written may stand, the row's words may
pub written_stands : (t : Tree) (before after : List ℕ) (row : ℕ) (words : List ℕ) (i : ℕ) → Writing before after row words i → ROW_WORDS ≤ i → MayStand t before row words → MayStand t after row (row_words after row)
written_stands t before after row words i w whole m = record {
  fact = m.fact;
  spelled = spells_too after words row m.fact m.spelled (λ j some few. w.own j some (omega arith));
  now = m.now;
  last = λ e. m.last (ap (λ n. n + 1) (sym w.count) ∙ e);
}

-- and then a holder that has only written can open it
pub can_open : (p q : Pass) → OnlyWrites p q → (row : ℕ) (words : List ℕ) (i : ℕ) → Writing (words_of p) (words_of q) row words i → ROW_WORDS ≤ i → CanWrite (view p) row → count (words_of p) row < most
    → MayStand (tree_now p) (words_of p) row words → CanOpen (share q).limit (view q) row
can_open p q only row words i w whole odd low m = let n = w.count in record {
  odd = ap (λ c. c % 2) w.count ∙ odd;
  low = subst (λ c. c < most) (sym w.count) low;
  stands = subst (λ (t : Tree). MayStand t (words_of q) row (row_words (words_of q) row)) (sym (tree_same p q only)) (written_stands (tree_now p) (words_of p) (words_of q) row words i w whole m);
}
