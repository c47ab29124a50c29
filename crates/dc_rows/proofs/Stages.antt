-- The stages of a change, on the pass that makes it.
use Rattle.std.proofs.Common.{◌≡◌, ℕ, ◌+◌, List, set, sym, ap, ap₂, ◌∙◌, subst₂}
use Rattle.dc_plain.specs.Facts.{Key}
use Rattle.dc_plain.specs.Trees.{Tree}
use Rattle.dc_index.specs.Slots.{Slot}
use Rattle.dc_shrink.specs.Listings.{Listing}
use Rattle.dc_events.specs.Views.{View}
use Rattle.dc_events.specs.Standing.{tree_of}
use Rattle.dc_events.specs.Rows.{base_of, count}
use Rattle.dc_events.specs.Effects.{wrote}
use Rattle.dc_table.specs.Shares.{Share, HasNotTried}
use Rattle.dc_table.specs.Rows.{Rest}
use Rattle.dc_rows.specs.Rows.{Stage}
use Rattle.dc_table.specs.Changes.{with_words, words_of, tree_now}
use Rattle.dc_rows.specs.Changes.{KeepsTree, OnlyWrites}
use Rattle.dc_table.specs.declared.table.Guarded.{Guarded}
use Rattle.dc_table.specs.Passes.{Pass, known, view, share, IsSamePass, IsHolder}

pub wrote_only : (p q : Pass) → IsSamePass p q → HasNotTried (known p) (known q) → IsHolder q → (k x : ℕ) → view q ≡ wrote (view p) k x → OnlyWrites p q
wrote_only p q same untried holder k x e = record { same = same; untried = untried; holder = holder; only = e ∙ ap (λ ws. with_words (view p) ws) (sym (ap (λ (v : View). v.hold.words) e)) }

pub words_wrote : (p q : Pass) (k x : ℕ) → view q ≡ wrote (view p) k x → words_of q ≡ set (words_of p) k x
words_wrote p q k x e = ap (λ (v : View). v.hold.words) e

pub tree_same : (p q : Pass) → OnlyWrites p q → tree_now q ≡ tree_now p
tree_same p q w = ap₂ (λ (s : Share) (v : View). tree_of s.limit v.hold.history) w.same.same_share w.only

pub rows_same : (p q : Pass) → IsSamePass p q → (share q).rows ≡ (share p).rows
rows_same p q same = ap (λ (s : Share). s.rows) same.same_share

pub on_pass : (p q : Pass) → OnlyWrites p q → (words : List ℕ) (slots : List Slot) (used : Listing) (i n : ℕ) (keys : List Key)
    → Stage (tree_now p) (share p).rows words slots used i n keys → Stage (tree_now q) (share q).rows words slots used i n keys
on_pass p q w words slots used i n keys s = subst₂ (λ (t : Tree) (rows : ℕ). Stage t rows words slots used i n keys) (sym (tree_same p q w)) (sym (rows_same p q w.same)) s

-- the words after a row was shut
pub shut_words : (p q : Pass) (row r : ℕ) → r ≡ count (words_of p) row + 1 → view q ≡ wrote (view p) (base_of row) r → words_of q ≡ set (words_of p) (base_of row) (count (words_of p) row + 1)
shut_words p q row r is e = words_wrote p q (base_of row) r e ∙ ap (set (words_of p) (base_of row)) is

-- two writings, one after the other
pub then_only : (p q r : Pass) → OnlyWrites p q → OnlyWrites q r → OnlyWrites p r
then_only p q r a b = record {
  same = record { table = b.same.table ∙ a.same.table; id = b.same.id ∙ a.same.id; same_share = b.same.same_share ∙ a.same.same_share };
  untried = record { tries = b.untried.tries ∙ a.untried.tries; got = b.untried.got ∙ a.untried.got; left = b.untried.left ∙ a.untried.left; past = b.untried.past ∙ a.untried.past };
  holder = b.holder;
  only = b.only ∙ ap (λ (v : View). with_words v (words_of r)) a.only;
}

pub kept_then : {x y z : Guarded} → KeepsTree x y → KeepsTree y z → KeepsTree x z
kept_then a b = record { tree = b.tree ∙ a.tree; clock = b.clock ∙ a.clock; same_limit = b.same_limit ∙ a.same_limit }

-- all rows fit, on a pass whose tree and sizes are the same
pub rest_on : (p q : Pass) → OnlyWrites p q → (words : List ℕ) (slots : List Slot) (used : Listing) → Rest (tree_now p) (share p).rows words slots used → Rest (tree_now q) (share q).rows words slots used
rest_on p q w words slots used s = subst₂ (λ (t : Tree) (rows : ℕ). Rest t rows words slots used) (sym (tree_same p q w)) (sym (rows_same p q w.same)) s
