-- Stamps by their points keep the order of each actor whose points don't fall.
use Rattle.std.proofs.Common.{◌≡◌, ◌≢◌, ℕ, ◌<◌, ◌≤◌, ◌==◌, Bool, true, false, cond, List, [], ◌∷◌, filter, refl, sym, ap, ◌∙◌, subst, arith}
use Rattle.dc_plain.specs.Trees.{Tree, empty_tree}
use Rattle.dc_plain.specs.Runs.{tree_after, clock_after}
use Rattle.dc_plain.specs.Legal.{Stamp, IsRun, IsLegal, of_actor}
use Rattle.dc_check.specs.Judging.{Rises, RisesByActor, IsByPoint}
use Rattle.dc_check.proofs.Stamps.{clock_rises, first_is, rest_is, number_same, number_other}

pub lower : (a b : ℕ) (ss : List Stamp) → a ≤ b → Rises b ss → Rises a ss
lower a b [] le up = tt
lower a b (s ∷ ss) le up = let first = up.0 in (omega arith, up.1)

-- the points of an actor rise in a run
rises_in_run : (limit : ℕ) (t : Tree) (clock : ℕ) (order : List Stamp) → IsRun limit t clock order → (n : ℕ) → Rises clock (of_actor n order)
rises_in_run limit t clock [] run n = tt
rises_in_run limit t clock (y ∷ ys) run n =
    let after = rises_in_run limit (tree_after limit t y.request) (clock_after limit t y.request clock) ys run.2 n in
    let more = clock_rises limit t y.request clock in
    let here = run.0 in
    go (y.actor == n) (lower y.at (clock_after limit t y.request clock) (of_actor n ys) (omega arith) after) (lower clock (clock_after limit t y.request clock) (of_actor n ys) more after) (omega arith)
  where
    go : (b : Bool) → Rises y.at (of_actor n ys) → Rises clock (of_actor n ys) → clock ≤ y.at → Rises clock (cond b (y ∷ of_actor n ys) (of_actor n ys))
    go true own other le = (le, own)
    go false own other le = other

pub legal_rises : (limit : ℕ) (stamps : List Stamp) → IsLegal limit stamps → RisesByActor stamps
legal_rises limit stamps is n = subst (Rises 0) (is.kept n) (rises_in_run limit empty_tree 0 is.order is.run n)

rises_of : (n low : ℕ) (ss : List Stamp) → Rises low ss → Rises low (of_actor n ss)
rises_of n low [] up = tt
rises_of n low (s ∷ ss) up = go (s.actor == n) (rises_of n s.at ss up.1)
  where
    go : (b : Bool) → Rises s.at (of_actor n ss) → Rises low (cond b (s ∷ of_actor n ss) (of_actor n ss))
    go true rest = (up.0, rest)
    go false rest = lower low s.at (of_actor n ss) up.0 rest

abbrev at_point : ℕ → List Stamp → List Stamp
at_point at ss = filter (λ s. s.at == at) ss

at_point-here : (s : Stamp) (ss : List Stamp) → at_point s.at (s ∷ ss) ≡ s ∷ at_point s.at ss
at_point-here s ss = ap (λ b. cond b (s ∷ at_point s.at ss) (at_point s.at ss)) (number_same s.at)

at_point-later : (at : ℕ) (s : Stamp) (ss : List Stamp) → s.at ≢ at → at_point at (s ∷ ss) ≡ at_point at ss
at_point-later at s ss other = ap (λ b. cond b (s ∷ at_point at ss) (at_point at ss)) (number_other s.at at other)

none_before : (at low : ℕ) (ss : List Stamp) → Rises low ss → at < low → at_point at ss ≡ []
none_before at low [] up less = refl
none_before at low (s ∷ ss) up less =
    let first = up.0 in
    at_point-later at s ss (λ e. omega arith) ∙ none_before at s.at ss up.1 (omega arith)

not_some : (s : Stamp) (xs : List Stamp) → s ∷ xs ≡ [] → ⊥
not_some s xs e = cc

apart_rest : (at : ℕ) (s : Stamp) (xs ys : List Stamp) → at_point at (s ∷ xs) ≡ at_point at (s ∷ ys) → at_point at xs ≡ at_point at ys
apart_rest at s xs ys e = go (s.at == at) e
  where
    go : (b : Bool) → cond b (s ∷ at_point at xs) (at_point at xs) ≡ cond b (s ∷ at_point at ys) (at_point at ys) → at_point at xs ≡ at_point at ys
    go true e = rest_is s s (at_point at xs) (at_point at ys) e
    go false e = e

-- two lists whose points rise and that have the same stamps at each point are one
same_points : (low high : ℕ) (xs ys : List Stamp) → Rises low xs → Rises high ys → ((at : ℕ) → at_point at xs ≡ at_point at ys) → xs ≡ ys
same_points low high [] [] up vp e = refl
same_points low high [] (y ∷ ys) up vp e = absurd (not_some y (at_point y.at ys) (sym (at_point-here y ys) ∙ sym (e y.at)))
same_points low high (x ∷ xs) [] up vp e = absurd (not_some x (at_point x.at xs) (sym (at_point-here x xs) ∙ e x.at))
same_points low high (x ∷ xs) (y ∷ ys) up vp e =
    let self : x.at ≤ x.at = omega arith in
    let selves : y.at ≤ y.at = omega arith in
    let not_less : x.at < y.at → ⊥ = λ less. not_some x (at_point x.at xs) (sym (at_point-here x xs) ∙ e x.at ∙ none_before x.at y.at (y ∷ ys) (selves, vp.1) less) in
    let not_more : y.at < x.at → ⊥ = λ less. not_some y (at_point y.at ys) (sym (at_point-here y ys) ∙ sym (e y.at) ∙ none_before y.at x.at (x ∷ xs) (self, up.1) less) in
    let level : x.at ≡ y.at = omega arith in
    let firsts : x ∷ at_point x.at xs ≡ y ∷ at_point y.at ys = sym (at_point-here x xs) ∙ e x.at ∙ ap (λ a. at_point a (y ∷ ys)) level ∙ at_point-here y ys in
    let is = first_is x y (at_point x.at xs) (at_point y.at ys) firsts in
    let rest = same_points x.at y.at xs ys up.1 vp.1 (λ at. apart_rest at x xs ys (e at ∙ ap (λ z. at_point at (z ∷ ys)) (sym is))) in
    ap (λ z. z ∷ xs) is ∙ ap (λ zs. y ∷ zs) rest

-- one test after another, in either order
filters_commute : (p q : Stamp → Bool) (ss : List Stamp) → filter p (filter q ss) ≡ filter q (filter p ss)
filters_commute p q [] = refl
filters_commute p q (s ∷ ss) = go (p s) (q s) refl refl (filters_commute p q ss)
  where
    go : (a b : Bool) → p s ≡ a → q s ≡ b → filter p (filter q ss) ≡ filter q (filter p ss) → filter p (cond (q s) (s ∷ filter q ss) (filter q ss)) ≡ filter q (cond (p s) (s ∷ filter p ss) (filter p ss))
    go a b e f rest =
        ap (λ z. filter p (cond z (s ∷ filter q ss) (filter q ss))) f ∙ by a b e f rest ∙ sym (ap (λ z. filter q (cond z (s ∷ filter p ss) (filter p ss))) e)
      where
        by : (a b : Bool) → p s ≡ a → q s ≡ b → filter p (filter q ss) ≡ filter q (filter p ss) → filter p (cond b (s ∷ filter q ss) (filter q ss)) ≡ filter q (cond a (s ∷ filter p ss) (filter p ss))
        by true true e f rest = ap (λ z. cond z (s ∷ filter p (filter q ss)) (filter p (filter q ss))) e ∙ ap (λ zs. s ∷ zs) rest ∙ sym (ap (λ z. cond z (s ∷ filter q (filter p ss)) (filter q (filter p ss))) f)
        by true false e f rest = rest ∙ sym (ap (λ z. cond z (s ∷ filter q (filter p ss)) (filter q (filter p ss))) f)
        by false true e f rest = ap (λ z. cond z (s ∷ filter p (filter q ss)) (filter p (filter q ss))) e ∙ rest
        by false false e f rest = rest

-- by their points, each actor's stamps are as they were given
pub sorted_keeps : (stamps sorted : List Stamp) → IsByPoint stamps sorted → RisesByActor stamps → (n : ℕ) → of_actor n sorted ≡ of_actor n stamps
sorted_keeps stamps sorted is up n = same_points 0 0 (of_actor n sorted) (of_actor n stamps) (rises_of n 0 sorted is.rises) (up n) (λ at.
    filters_commute (λ s. s.at == at) (λ s. s.actor == n) sorted ∙ ap (of_actor n) (is.stable at) ∙ filters_commute (λ s. s.actor == n) (λ s. s.at == at) stamps)
