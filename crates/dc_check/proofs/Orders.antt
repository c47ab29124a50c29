-- Stamps in the order of a run: where one stands, and the run without it.
use Rattle.std.proofs.Common.{◌≡◌, ◌≢◌, ℕ, ◌≤◌, ◌==◌, ◌⊎◌, Bool, true, false, cond, List, [], ◌∷◌, refl, sym, ap, ◌∙◌, subst, inl, inr, arith}
use Rattle.std.proofs.lemmas.Bool.Decides.{eqb_tells}
use Rattle.dc_plain.specs.LivingLaws.{SameTreeDecides}
use Rattle.dc_plain.specs.Trees.{Tree}
use Rattle.dc_plain.specs.Runs.{reply_of, tree_after, alters, clock_after}
use Rattle.dc_plain.specs.Legal.{Stamp, IsRun, of_actor}
use Rattle.dc_check.proofs.Stamps.{clock_more, clock_rises, run_unaltered, run_behind, first_is, rest_is, of_actor-at, of_actor-other, of_actor-cons, Among, among_from}

-- what is among a run isn't before it
pub later : (limit : ℕ) (t : Tree) (clock : ℕ) (order : List Stamp) → IsRun limit t clock order → (x : Stamp) → Among x order → clock ≤ x.at
later limit t clock [] run x a = absurd a
later limit t clock (y ∷ ys) run x (inl here) = let same : y.at ≡ x.at = ap (λ (z : Stamp). z.at) here in let first = run.0 in omega arith
later limit t clock (y ∷ ys) run x (inr more) =
    let after = later limit (tree_after limit t y.request) (clock_after limit t y.request clock) ys run.2 x more in
    let up = clock_rises limit t y.request clock in omega arith

-- behind one that altered the tree the points are higher
behind_change : (limit : ℕ) (t : Tree) (clock : ℕ) (y : Stamp) (ys : List Stamp) → IsRun limit t clock (y ∷ ys) → alters limit t y.request ≡ true → (x : Stamp) → Among x ys → x.at ≡ clock → ⊥
behind_change limit t clock y ys run e x a here =
    let after = later limit (tree_after limit t y.request) (clock_after limit t y.request clock) ys run.2 x a in
    let more = clock_more limit t y.request clock e in omega arith

tells : (b : Bool) → (b ≡ true) ⊎ (b ≡ false)
tells true = inl refl
tells false = inr refl

-- a stamp at the first point is answered on the first tree
pub stands : SameTreeDecides → (limit : ℕ) (t : Tree) (clock : ℕ) (order : List Stamp) → IsRun limit t clock order → (x : Stamp) → Among x order → x.at ≡ clock → x.answer ≡ reply_of limit t x.request
stands decides limit t clock [] run x a here = absurd a
stands decides limit t clock (y ∷ ys) run x (inl same) here = subst (λ (z : Stamp). z.answer ≡ reply_of limit t z.request) same run.1
stands decides limit t clock (y ∷ ys) run x (inr more) here = elim (tells (alters limit t y.request)) [
  | inl e ↦ absurd (behind_change limit t clock y ys run e x more here)
  | inr e ↦ stands decides limit t clock ys (run_unaltered decides limit t clock y ys e run.2) x more here
]

-- a change isn't followed by a stamp of its actor at its point
pub alone : SameTreeDecides → (limit : ℕ) (t : Tree) (clock : ℕ) (order : List Stamp) → IsRun limit t clock order → (n : ℕ) (p s : Stamp) (rest : List Stamp) → of_actor n order ≡ p ∷ s ∷ rest
    → alters limit t p.request ≡ true → p.at ≡ clock → s.at ≡ clock → ⊥
alone decides limit t clock [] run n p s rest e change here there = cc
alone decides limit t clock (y ∷ ys) run n p s rest e change here there = elim (eqb_tells y.actor n) [
  | inl own ↦ (let all : y ∷ of_actor n ys ≡ p ∷ s ∷ rest = sym (of_actor-at n y ys own.1) ∙ e in
      let is = first_is y p (of_actor n ys) (s ∷ rest) all in
      let more : Among s ys = among_from n s ys (subst (Among s) (sym (rest_is y p (of_actor n ys) (s ∷ rest) all)) (inl refl)) in
      behind_change limit t clock y ys run (ap (λ (z : Stamp). alters limit t z.request) is ∙ change) s more there)
  | inr apart ↦ (let all : of_actor n ys ≡ p ∷ s ∷ rest = sym (ap (λ b. cond b (y ∷ of_actor n ys) (of_actor n ys)) apart.0) ∙ e in
      let more : Among p ys = among_from n p ys (subst (Among p) (sym all) (inl refl)) in
      elim (tells (alters limit t y.request)) [
        | inl altered ↦ behind_change limit t clock y ys run altered p more here
        | inr same ↦ alone decides limit t clock ys (run_unaltered decides limit t clock y ys same run.2) n p s rest all change here there
      ])
]

-- two stamps don't alter the tree at one point
pub once : SameTreeDecides → (limit : ℕ) (t : Tree) (clock : ℕ) (order : List Stamp) → IsRun limit t clock order → (p s : Stamp) → Among p order → Among s order → p.actor ≢ s.actor
    → alters limit t p.request ≡ true → alters limit t s.request ≡ true → p.at ≡ clock → s.at ≡ clock → ⊥
once decides limit t clock [] run p s a b apart c d here there = absurd a
once decides limit t clock (y ∷ ys) run p s (inl is) (inl too) apart c d here there = apart (ap (λ (z : Stamp). z.actor) (sym is ∙ too))
once decides limit t clock (y ∷ ys) run p s (inl is) (inr more) apart c d here there = behind_change limit t clock y ys run (ap (λ (z : Stamp). alters limit t z.request) is ∙ c) s more there
once decides limit t clock (y ∷ ys) run p s (inr more) (inl is) apart c d here there = behind_change limit t clock y ys run (ap (λ (z : Stamp). alters limit t z.request) is ∙ d) p more here
once decides limit t clock (y ∷ ys) run p s (inr a) (inr b) apart c d here there = elim (tells (alters limit t y.request)) [
  | inl altered ↦ behind_change limit t clock y ys run altered p a here
  | inr same ↦ once decides limit t clock ys (run_unaltered decides limit t clock y ys same run.2) p s a b apart c d here there
]

-- without the first stamp of an actor
pub without_first : ℕ → List Stamp → List Stamp
without_first n [] = []
without_first n (y ∷ ys) = cond (y.actor == n) ys (y ∷ without_first n ys)

pub shorter_own : (n : ℕ) (order : List Stamp) (s : Stamp) (rest : List Stamp) → of_actor n order ≡ s ∷ rest → of_actor n (without_first n order) ≡ rest
unfolding without_first
shorter_own n [] s rest e = cc
shorter_own n (y ∷ ys) s rest e = elim (eqb_tells y.actor n) [
  | inl own ↦ ap (λ b. of_actor n (cond b ys (y ∷ without_first n ys))) own.0 ∙ rest_is y s (of_actor n ys) rest (sym (of_actor-at n y ys own.1) ∙ e)
  | inr apart ↦ ap (λ b. of_actor n (cond b ys (y ∷ without_first n ys))) apart.0 ∙ ap (λ b. cond b (y ∷ of_actor n (without_first n ys)) (of_actor n (without_first n ys))) apart.0
      ∙ shorter_own n ys s rest (sym (ap (λ b. cond b (y ∷ of_actor n ys) (of_actor n ys)) apart.0) ∙ e)
]

pub shorter_other : (m n : ℕ) (order : List Stamp) → m ≢ n → of_actor m (without_first n order) ≡ of_actor m order
unfolding without_first
shorter_other m n [] apart = refl
shorter_other m n (y ∷ ys) apart = elim (eqb_tells y.actor n) [
  | inl own ↦ ap (λ b. of_actor m (cond b ys (y ∷ without_first n ys))) own.0 ∙ sym (of_actor-other m y ys (λ e. apart (sym e ∙ own.1)))
  | inr other ↦ ap (λ b. of_actor m (cond b ys (y ∷ without_first n ys))) other.0 ∙ of_actor-cons m y (without_first n ys) ys (shorter_other m n ys apart)
]

pub shorter_run : SameTreeDecides → (limit : ℕ) (t : Tree) (clock : ℕ) (order : List Stamp) → IsRun limit t clock order → (n : ℕ) (s : Stamp) (rest : List Stamp) → of_actor n order ≡ s ∷ rest
    → s.at ≡ clock → alters limit t s.request ≡ false → IsRun limit t clock (without_first n order)
unfolding without_first
shorter_run decides limit t clock [] run n s rest e here flat = cc
shorter_run decides limit t clock (y ∷ ys) run n s rest e here flat = elim (eqb_tells y.actor n) [
  | inl own ↦ (let is = first_is y s (of_actor n ys) rest (sym (of_actor-at n y ys own.1) ∙ e) in
      subst (λ b. IsRun limit t clock (cond b ys (y ∷ without_first n ys))) (sym own.0) (run_unaltered decides limit t clock y ys (ap (λ (z : Stamp). alters limit t z.request) is ∙ flat) run.2))
  | inr apart ↦ (let all : of_actor n ys ≡ s ∷ rest = sym (ap (λ b. cond b (y ∷ of_actor n ys) (of_actor n ys)) apart.0) ∙ e in
      let more : Among s ys = among_from n s ys (subst (Among s) (sym all) (inl refl)) in
      elim (tells (alters limit t y.request)) [
        | inl altered ↦ absurd (behind_change limit t clock y ys run altered s more here)
        | inr same ↦ subst (λ b. IsRun limit t clock (cond b ys (y ∷ without_first n ys))) (sym apart.0)
            (run.0, run.1, run_behind decides limit t clock y (without_first n ys) same (shorter_run decides limit t clock ys (run_unaltered decides limit t clock y ys same run.2) n s rest all here flat))
      ])
]
