-- Stamps of one actor, and those of a run.
use Rattle.std.proofs.Common.{◌≡◌, ◌≢◌, ℕ, ◌+◌, ◌≤◌, ◌==◌, ◌⊎◌, not, Bool, true, false, cond, List, [], ◌∷◌, refl, sym, ap, ◌∙◌, subst, inl, inr, arith}
use Rattle.std.proofs.lemmas.Bool.Decides.{nat_tests, eqb_tells}
use Rattle.dc_plain.specs.Requests.{Request}
use Rattle.dc_plain.specs.Trees.{Tree}
use Rattle.dc_plain.specs.Runs.{tree_after, alters, clock_after, same_tree}
use Rattle.dc_plain.specs.Legal.{Stamp, IsRun, of_actor}
use Rattle.dc_plain.specs.LivingLaws.{SameTreeDecides}

not_is : (b : Bool) → not b ≡ false → b ≡ true
not_is true e = refl
not_is false e = cc

-- a call that doesn't alter the tree leaves it
pub unaltered : SameTreeDecides → (limit : ℕ) (t : Tree) (request : Request) → alters limit t request ≡ false → tree_after limit t request ≡ t
unaltered decides limit t request e = (decides (tree_after limit t request) t).0 (not_is (same_tree (tree_after limit t request) t) e)

pub clock_same : (limit : ℕ) (t : Tree) (request : Request) (clock : ℕ) → alters limit t request ≡ false → clock_after limit t request clock ≡ clock
clock_same limit t request clock e = ap (λ b. cond b (clock + 1) clock) e

pub clock_more : (limit : ℕ) (t : Tree) (request : Request) (clock : ℕ) → alters limit t request ≡ true → clock_after limit t request clock ≡ clock + 1
clock_more limit t request clock e = ap (λ b. cond b (clock + 1) clock) e

clock_rises_by : (b : Bool) (clock : ℕ) → clock ≤ cond b (clock + 1) clock
clock_rises_by true clock = omega arith
clock_rises_by false clock = omega arith

pub clock_rises : (limit : ℕ) (t : Tree) (request : Request) (clock : ℕ) → clock ≤ clock_after limit t request clock
clock_rises limit t request clock = clock_rises_by (alters limit t request) clock

-- a run goes on behind a stamp that altered nothing
pub run_unaltered : SameTreeDecides → (limit : ℕ) (t : Tree) (clock : ℕ) (s : Stamp) (rest : List Stamp) → alters limit t s.request ≡ false
    → IsRun limit (tree_after limit t s.request) (clock_after limit t s.request clock) rest → IsRun limit t clock rest
run_unaltered decides limit t clock s rest e run =
    subst (λ c. IsRun limit t c rest) (clock_same limit t s.request clock e)
    (subst (λ u. IsRun limit u (clock_after limit t s.request clock) rest) (unaltered decides limit t s.request e) run)

pub run_behind : SameTreeDecides → (limit : ℕ) (t : Tree) (clock : ℕ) (s : Stamp) (rest : List Stamp) → alters limit t s.request ≡ false
    → IsRun limit t clock rest → IsRun limit (tree_after limit t s.request) (clock_after limit t s.request clock) rest
run_behind decides limit t clock s rest e run =
    subst (λ c. IsRun limit (tree_after limit t s.request) c rest) (sym (clock_same limit t s.request clock e))
    (subst (λ u. IsRun limit u clock rest) (sym (unaltered decides limit t s.request e)) run)

-- a test of a number with itself, and of two others
pub number_same : (n : ℕ) → (n == n) ≡ true
number_same n = grind (arith, nat_tests)

pub number_other : (m n : ℕ) → m ≢ n → (m == n) ≡ false
number_other m n other = elim (eqb_tells m n) [ inl same ↦ absurd (other same.1) | inr apart ↦ apart.0 ]

pub number_apart : (m n : ℕ) → (m == n) ≡ false → m ≢ n
number_apart m n e same = grind (arith, nat_tests)

pub first_is : (s t : Stamp) (xs ys : List Stamp) → s ∷ xs ≡ t ∷ ys → s ≡ t
first_is s t xs ys e = cc

pub rest_is : (s t : Stamp) (xs ys : List Stamp) → s ∷ xs ≡ t ∷ ys → xs ≡ ys
rest_is s t xs ys e = cc

pub of_actor-own : (s : Stamp) (ss : List Stamp) → of_actor s.actor (s ∷ ss) ≡ s ∷ of_actor s.actor ss
of_actor-own s ss = ap (λ b. cond b (s ∷ of_actor s.actor ss) (of_actor s.actor ss)) (number_same s.actor)

pub of_actor-at : (n : ℕ) (s : Stamp) (ss : List Stamp) → s.actor ≡ n → of_actor n (s ∷ ss) ≡ s ∷ of_actor n ss
of_actor-at n s ss e = ap (λ m. cond (s.actor == m) (s ∷ of_actor n ss) (of_actor n ss)) (sym e) ∙ ap (λ b. cond b (s ∷ of_actor n ss) (of_actor n ss)) (number_same s.actor)

pub of_actor-other : (n : ℕ) (s : Stamp) (ss : List Stamp) → s.actor ≢ n → of_actor n (s ∷ ss) ≡ of_actor n ss
of_actor-other n s ss other = ap (λ b. cond b (s ∷ of_actor n ss) (of_actor n ss)) (number_other s.actor n other)

-- what is in front doesn't matter
pub of_actor-cons : (n : ℕ) (s : Stamp) (xs ys : List Stamp) → of_actor n xs ≡ of_actor n ys → of_actor n (s ∷ xs) ≡ of_actor n (s ∷ ys)
of_actor-cons n s xs ys e = ap (λ rest. cond (s.actor == n) (s ∷ rest) rest) e

rest_by : (b : Bool) (s : Stamp) (xs ys : List Stamp) → cond b (s ∷ xs) xs ≡ cond b (s ∷ ys) ys → xs ≡ ys
rest_by true s xs ys e = rest_is s s xs ys e
rest_by false s xs ys e = e

pub of_actor-rest : (n : ℕ) (s : Stamp) (xs ys : List Stamp) → of_actor n (s ∷ xs) ≡ of_actor n (s ∷ ys) → of_actor n xs ≡ of_actor n ys
of_actor-rest n s xs ys e = rest_by (s.actor == n) s (of_actor n xs) (of_actor n ys) e

-- stamps of two actors may change their places
pub of_actor-swap : (n : ℕ) (s p : Stamp) (ss : List Stamp) → p.actor ≢ s.actor → of_actor n (s ∷ p ∷ ss) ≡ of_actor n (p ∷ s ∷ ss)
of_actor-swap n s p ss apart = elim (eqb_tells s.actor n) [
  | inl own ↦ (let other : p.actor ≢ n = λ e. apart (e ∙ sym own.1) in
      of_actor-at n s (p ∷ ss) own.1 ∙ ap (λ rest. s ∷ rest) (of_actor-other n p ss other) ∙ sym (of_actor-at n s ss own.1) ∙ sym (of_actor-other n p (s ∷ ss) other))
  | inr not_own ↦ (let other : s.actor ≢ n = number_apart s.actor n not_own.0 in
      of_actor-other n s (p ∷ ss) other ∙ of_actor-cons n p ss (s ∷ ss) (sym (of_actor-other n s ss other)))
]

-- a stamp is among others
abbrev pub Among : Stamp → List Stamp → Type 0
Among x [] = ⊥
Among x (s ∷ ss) = (s ≡ x) ⊎ Among x ss

among_cond : (b : Bool) (x s : Stamp) (ss : List Stamp) → Among x (cond b (s ∷ ss) ss) → (s ≡ x) ⊎ Among x ss
among_cond true x s ss a = a
among_cond false x s ss a = inr a

pub among_from : (n : ℕ) (x : Stamp) (ss : List Stamp) → Among x (of_actor n ss) → Among x ss
among_from n x [] a = a
among_from n x (s ∷ ss) a = elim (among_cond (s.actor == n) x s (of_actor n ss) a) [ inl here ↦ inl here | inr later ↦ inr (among_from n x ss later) ]

behind : (b : Bool) (x s : Stamp) (ss : List Stamp) → Among x ss → Among x (cond b (s ∷ ss) ss)
behind true x s ss a = inr a
behind false x s ss a = a

pub among_own : (x : Stamp) (ss : List Stamp) → Among x ss → Among x (of_actor x.actor ss)
among_own x [] a = a
among_own x (s ∷ ss) (inl here) = subst (Among x) (sym (of_actor-at x.actor s ss (ap (λ (y : Stamp). y.actor) here))) (inl here)
among_own x (s ∷ ss) (inr later) = behind (s.actor == x.actor) x s (of_actor x.actor ss) (among_own x ss later)

-- lists that are the same for each actor have the same stamps
pub among_kept : (xs ys : List Stamp) → ((actor : ℕ) → of_actor actor xs ≡ of_actor actor ys) → (x : Stamp) → Among x xs → Among x ys
among_kept xs ys kept x a = among_from x.actor x ys (subst (Among x) (kept x.actor) (among_own x xs a))
