-- Who holds a directory, and the way up from it.
use Rattle.std.proofs.Common.{cond, List, [], ◌∷◌, ◌||◌, ◌≡◌, ◌≢◌, ℕ, zero, suc, ◌==◌, Bool, true, false, Option, Some, None, IsTrue, refl, sym, find, option_map, subst}
use Rattle.std.proofs.lemmas.Bool.Decides.{nat_tests}
use Rattle.std.proofs.Common.{arith}
use Rattle.std.specs.List.{AllByRecursion}
use Rattle.dc_plain.specs.Trees.{Tree, Spot, holder_of, if_held, is_live_directory}
use Rattle.dc_plain.specs.IsWellFormed.{IsWellFormed, Stands, comes_up}

pub other_test : (m n : ℕ) → m ≢ n → (m == n) ≡ false
other_test m n e = grind (arith, nat_tests)

pub same_test : (n : ℕ) → (n == n) ≡ true
same_test n = grind (arith, nat_tests)

pub decided : (m n : ℕ) → (m == n) ≡ true → m ≡ n
decided m n e = grind (arith, nat_tests)

pub decided_not : (m n : ℕ) → (m == n) ≡ false → m ≢ n
decided_not m n e = grind (arith, nat_tests)

-- what holds of each holds of the one that is found
pub All-find : {X : Type 0} (P : X → Type 0) (p : X → Bool) (xs : List X) → AllByRecursion P xs → (x : X) → find p xs ≡ Some x → P x
All-find P p [] all x e = cc
All-find P p (y ∷ ys) all x e =
    elim (p y) as (λ b. cond b (Some y) (find p ys) ≡ Some x → P x) [
      | true ↦ λ is. let same : y ≡ x = cc in subst P same all.0
      | false ↦ λ is. All-find P p ys all.1 x is
    ] e

or_later : (a b c : Bool) → (IsTrue b → IsTrue c) → IsTrue (a || b) → IsTrue (a || c)
or_later true b c so h = h
or_later false b c so h = so h

held_later : (o : Option ℕ) (f g : ℕ → Bool) → ((k : ℕ) → o ≡ Some k → IsTrue (f k) → IsTrue (g k)) → IsTrue (if_held o f) → IsTrue (if_held o g)
held_later None f g so h = h
held_later (Some k) f g so h = so k refl h

-- who holds a directory is a live directory
pub holder-live : (t : Tree) → IsWellFormed t → (n up : ℕ) → holder_of t n ≡ Some up → IsTrue (is_live_directory t up)
holder-live t well n up e = by_entry (find (λ e. e.1 == n) t.entries) refl e
  where
    by_entry : (o : Option (Spot × ℕ)) → find (λ e. e.1 == n) t.entries ≡ o → option_map (λ e. e.0.dir) o ≡ Some up → IsTrue (is_live_directory t up)
    by_entry None is e' = absurd cc
    by_entry (Some found) is e' =
        let stands = All-find (Stands t) (λ e. e.1 == n) t.entries well.entries found is in
        let same : found.0.dir ≡ up = cc in
        subst (λ k. IsTrue (is_live_directory t k)) same stands.held

-- the way up is the same if the holders of all on it are
pub comes_up-kept : (P : ℕ → Type 0) (t u : Tree) → ((n up : ℕ) → P n → holder_of t n ≡ Some up → P up) → ((n : ℕ) → P n → holder_of u n ≡ holder_of t n)
    → (steps n : ℕ) → P n → IsTrue (comes_up steps t n) → IsTrue (comes_up steps u n)
comes_up-kept P t u closed same zero n here h = h
comes_up-kept P t u closed same (suc steps) n here h =
    let old : ℕ → Bool = λ up. comes_up steps t up in
    let later : ℕ → Bool = λ up. comes_up steps u up in
    or_later (n == 1) (if_held (holder_of t n) old) (if_held (holder_of u n) later)
    (λ up. subst (λ o. IsTrue (if_held o later)) (sym (same n here))
    (held_later (holder_of t n) old later (λ k e. comes_up-kept P t u closed same steps k (closed n k here e)) up)) h
