-- How many names each inode has after an effect.
use Rattle.std.proofs.Common.{◌≡◌, ◌≢◌, ℕ, ◌+◌, ◌==◌, List, true, false, cond, Option, Some, None, refl, ap, sym, subst, arith}
use Rattle.dc_plain.specs.Conditions.{IsFree, CanLose, CanMove}
use Rattle.dc_plain.specs.EffectFacts.{Clears}
use Rattle.dc_plain.specs.Effects.{with_entry_for, without_entry, cleared, tree_moved}
use Rattle.dc_plain.specs.IsWellFormed.{IsWellFormed}
use Rattle.dc_plain.specs.Spots.{spot_at}
use Rattle.dc_plain.specs.Trees.{Tree, entry_number, names_of}
use Rattle.dc_store.specs.Laws.{TreeLaws}
use Rattle.dc_store.proofs.CountedInodes.{one}
use Rattle.dc_store.proofs.Decides.{decided, decided_not}

-- one number counts one more, and each other as many
one_more : (f g : ℕ → ℕ) (n : ℕ) → f n ≡ g n + 1 → ((q : ℕ) → q ≢ n → f q ≡ g q) → (q : ℕ) → f q ≡ g q + cond (n == q) 1 0
one_more f g n more same q =
    elim (n == q) as (λ b. (n == q) ≡ b → f q ≡ g q + cond b 1 0) [
      | true ↦ λ is. subst (λ k. f k ≡ g k + 1) (decided n q is) more
      | false ↦ λ is. let still = same q (λ e. decided_not n q is (sym e)) in omega arith
    ] refl

module _ (laws : TreeLaws) (t : Tree) (well : IsWellFormed t) where
  pub names_further : (d : ℕ) (name : List ℕ) (n : ℕ) → IsFree t d name → (q : ℕ) → names_of (with_entry_for t d name n) q ≡ names_of t q + cond (n == q) 1 0
  names_further d name n free = let facts = laws.further t d name n well free in one_more (names_of (with_entry_for t d name n)) (names_of t) n facts.named facts.still_named

  pub names_lost : (d : ℕ) (name : List ℕ) (n : ℕ) → CanLose t d name n → (q : ℕ) → names_of t q ≡ names_of (without_entry t d name n) q + cond (n == q) 1 0
  names_lost d name n can = let facts = laws.lost t d name n well can in one_more (names_of t) (names_of (without_entry t d name n)) n (sym facts.named) (λ q other. sym (facts.still_named q other))

  names_cleared : (d : ℕ) (name : List ℕ) → Clears t d name (cleared t d name) → (q : ℕ) → names_of t q ≡ names_of (cleared t d name) q + one (entry_number t (spot_at d name)) q
  names_cleared d name facts q = by_there (entry_number t (spot_at d name)) refl
    where
      by_there : (o : Option ℕ) → entry_number t (spot_at d name) ≡ o → names_of t q ≡ names_of (cleared t d name) q + one o q
      by_there None free = let same = ap (λ u. names_of u q) (facts.alone free) in omega arith
      by_there (Some m) there = let lost = facts.over m there in one_more (names_of t) (names_of (cleared t d name)) m (sym lost.named) (λ k other. sym (lost.still_named k other)) q

  -- what stood at the new name has one less
  pub names_moved : (from : ℕ) (old : List ℕ) (to : ℕ) (new : List ℕ) (n : ℕ) → CanMove t from old to new n
      → (q : ℕ) → names_of t q ≡ names_of (tree_moved t from old to new n) q + one (entry_number t (spot_at to new)) q
  names_moved from old to new n can q =
      let facts = laws.move t from old to new n well can in
      let same = facts.still_named q in
      let less = names_cleared to new facts.clears q in
      omega arith
