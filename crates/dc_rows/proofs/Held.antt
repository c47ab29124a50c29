-- What a call knows of its pass from before it got the lock.
use Rattle.std.proofs.Common.{◌≡◌, ℕ, Option, Some, Result, Ok, Err, OnOk, OnErr, List, length, ap, sym, ◌∙◌, subst, subst₂}
use Rattle.dc_events.specs.Views.{View}
use Rattle.dc_plain.specs.Requests.{Request}
use Rattle.dc_plain.specs.Trees.{Tree}
use Rattle.dc_shrink.specs.Listings.{Listing, last_of, pinned_once}
use Rattle.dc_shrink.specs.Uses.{KeepsUse}
use Rattle.dc_index.specs.Slots.{Slot, slot_of, has_key}
use Rattle.dc_table.specs.Kept.{HomeFits}
use Rattle.dc_table.specs.Changes.{tree_now, words_of}
use Rattle.dc_table.specs.Passes.{Pass, known, share}
use Rattle.dc_table.specs.Plays.{Home}
use Rattle.dc_table.specs.Rows.{OnlyOdd, OfNone, Rest}
use Rattle.dc_table.specs.Shares.{Share}
use Rattle.dc_table.specs.declared.table.Guarded.{Guarded}
use Rattle.dc_rows.specs.Changes.{KeepsTree, OnlyWrites, RestAt}
use Rattle.dc_rows.specs.Guards.{Keeps}
use Rattle.dc_rows.specs.declared.guard.Guard.{Guard}
use Rattle.dc_rows.proofs.Stages.{kept_then, then_only, tree_same, rows_same}

pub keeps_then : (f g h : Guard) → Keeps f g → Keeps g h → Keeps f h
keeps_then f g h a b = record {
  only = then_only f.holder.pass.now g.holder.pass.now h.holder.pass.now a.only b.only;
  tree = kept_then a.tree b.tree;
}

-- what the lock guards is what the guard has
pub home_is : (p : Pass) {x y : Guarded} → x ≡ y → Home (known p) y → Home (known p) x
home_is p e h = subst (λ (z : Guarded). Home (known p) z) (sym e) h

pub rest_of : (p : Pass) (x : Guarded) → Home (known p) x → RestAt p x
rest_of p x h = subst (λ (t : Tree). Rest t (share p).rows (words_of p) x.index x.shrinker) h.tree h.rest

-- words of rows were written, and the rows rest again
pub home_on : (p q : Pass) (x y : Guarded) (used : Listing) → Home (known p) x → OnlyWrites p q → KeepsTree x y → Rest (tree_now p) (share p).rows (words_of q) y.index used → Home (known q) (record y { shrinker = used })
home_on p q x y used h w t rest = record {
  tree = t.tree ∙ h.tree ∙ sym (tree_same p q w);
  clock = t.clock ∙ h.clock ∙ sym (ap (λ (v : View). length v.hold.history) w.only);
  same_limit = t.same_limit ∙ h.same_limit ∙ sym (ap (λ (s : Share). s.limit) w.same.same_share);
  rest = subst₂ (λ (z : Tree) (rows : ℕ). Rest z rows (words_of q) y.index used) (sym (t.tree ∙ h.tree)) (sym (rows_same p q w.same)) rest;
}

-- a pin more or less of a row that stays in use leaves the rows at rest
pub home_used : (limit rows : ℕ) (words : List ℕ) (hist : List Request) (x y : Guarded) → HomeFits limit rows words hist x → KeepsTree x y → y.index ≡ x.index → KeepsUse x.shrinker y.shrinker → y.shrinker.rows ≡ x.shrinker.rows → HomeFits limit rows words hist y
home_used limit rows words hist x y h tree index same many = record {
  tree = tree.tree ∙ h.tree;
  clock = tree.clock ∙ h.clock;
  same_limit = tree.same_limit ∙ h.same_limit;
  rest = record {
    fit = record {
      indexed = subst (λ (slots : List Slot). length slots ≡ rows) (sym index) h.rest.fit.indexed;
      listed = many ∙ h.rest.fit.listed;
      agree = λ row. ap (λ (slots : List Slot). has_key (slot_of slots row)) index ∙ h.rest.fit.agree row ∙ sym (same row);
      size = h.rest.fit.size;
    };
    rest = subst (λ (z : Tree × List Slot). OnlyOdd z.0 rows words z.1 OfNone) (λ i. (sym tree.tree i, sym index i)) h.rest.rest;
  };
}

-- a pin more leaves the table as long as it is
pub pin_rows : {A E : Type 0} (result : Result A E) (u v : Listing) (row : ℕ) → OnOk result (v ≡ pinned_once u row) → OnErr result (v ≡ u) → v.rows ≡ u.rows
pin_rows (Ok done) u v row pinned err = ap (λ (l : Listing). l.rows) pinned
pin_rows (Err fault) u v row pinned err = ap (λ (l : Listing). l.rows) err

-- the row that goes next, as the lock's guard has it
pub last_so : {x y : Guarded} {victim : Option ℕ} {row : ℕ} → victim ≡ last_of x.shrinker.listed → x ≡ y → victim ≡ Some row → last_of y.shrinker.listed ≡ Some row
last_so is same some = sym (is ∙ ap (λ (z : Guarded). last_of z.shrinker.listed) same) ∙ some
