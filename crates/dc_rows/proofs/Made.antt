-- The rows that a change leaves.
use Rattle.std.proofs.Common.{◌≡◌, ℕ, Result, Ok, Err, sym, ap, ◌∙◌, subst}
use Rattle.dc_plain.specs.Facts.{Key}
use Rattle.dc_plain.specs.Trees.{Tree, fact_at}
use Rattle.dc_plain.specs.Operations.{operation}
use Rattle.dc_plain.specs.Requests.{Request, Answer, answer_of}
use Rattle.dc_plain.specs.Runs.{Touches, tree_after}
use Rattle.dc_plain.specs.declared.call.Reply.{Reply}
use Rattle.dc_ops.specs.Settled.{IsPlanned}
use Rattle.dc_ops.specs.declared.plans.Plan.{Plan}
use Rattle.dc_events.specs.Views.{View}
use Rattle.dc_events.specs.Standing.{tree_of}
use Rattle.dc_table.specs.Changes.{tree_now}
use Rattle.dc_table.specs.Passes.{Pass, view, share}
use Rattle.dc_table.specs.Rows.{Agree}
use Rattle.dc_table.specs.RowStates.{RowState}
use Rattle.dc_table.specs.Shares.{Share}
use Rattle.dc_rows.specs.Changes.{Altered}
use Rattle.dc_rows.specs.Refills.{Retold, Turns}
use Rattle.dc_rows.proofs.Altering.{after_all-snoc}
use Rattle.dc_rows.proofs.SameRows.{same_row}
use Rattle.dc_rows.proofs.Turning.{all_keyed}

-- no row changes if no key is touched
pub rows_stay : (R : RowState → RowState → ℕ → Key → Type 0) (K : Key → Type 0) (s t : RowState) → Agree s.slots s.used → t ≡ s → ((key : Key) → K key → ⊥) → Turns R K s t
rows_stay R K s t agree same none = subst (λ (z : RowState). Turns R K s z) (sym same) record {
  others = λ row out. same_row s row;
  own = λ row key e k. absurd (none key k);
  order = sym (all_keyed s agree);
}

-- a call that leaves the tree as it is touches no key
pub untouched : (limit : ℕ) (t : Tree) (call : Request) → tree_after limit t call ≡ t → (key : Key) → Touches limit t call key → ⊥
untouched limit t call same key touch = touch (ap (λ (u : Tree). fact_at u key) same)

-- the tree that the holder has once the call is committed
pub altered_tree : (p q : Pass) (call : Request) (reply : Answer) → Altered p q call reply → tree_now q ≡ tree_after (share p).limit (tree_now p) call
altered_tree p q call reply a = ap (λ (s : Share). tree_of s.limit (view q).hold.history) a.same.same_share
    ∙ (ap (λ (v : View). tree_of (share p).limit v.hold.history) a.only ∙ after_all-snoc (share p).limit _ (view p).hold.history call)

-- rows that are told anew after one tree are so after the same tree
pub retold_as : (t u : Tree) (K : Key → Type 0) (s r z : RowState) → t ≡ u → z ≡ r → Turns (Retold t) K s r → Turns (Retold u) K s z
retold_as t u K s r z same is a = subst (λ (y : RowState). Turns (Retold u) K s y) (sym is) (subst (λ (x : Tree). Turns (Retold x) K s r) same a)

-- a reply that comes in the place of a plan is that of the tree, which it leaves as it is
pub declined_as : (limit : ℕ) (t : Tree) (call : Request) (planned : Result Plan Reply) (reply : Reply) → planned ≡ Err reply → IsPlanned limit t call planned → operation limit t call ≡ (answer_of reply, t)
declined_as limit t call (Ok plan) reply is so = absurd cc
declined_as limit t call (Err other) reply is so = let same : other ≡ reply = cc in subst (λ (r : Reply). operation limit t call ≡ (answer_of r, t)) same so.0.operation
