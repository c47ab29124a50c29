-- Calls in the order of their phases, as the trees at their points tell it and as the marks of the program do.
use Rattle.std.proofs.Common.{◌≡◌, ℕ, zero, suc, ◌+◌, ◌==◌, ◌&&◌, ◌↔◌, Bool, true, false, cond, List, [], ◌∷◌, Some, drop, filter, find, get_or, map, refl, sym, ap, ◌∙◌, subst}
use Rattle.std.specs.Prelude.{Contains}
use Rattle.dc_lang.specs.Spans.{Span, InPhases}
use Rattle.dc_plain.specs.Runs.{alters}
use Rattle.dc_plain.specs.Trees.{Tree}
use Rattle.dc_plain.specs.Legal.{Stamp}
use Rattle.dc_check.specs.Judging.{IsByPoint, Judge, alters_at, spans_in, taken}
use Rattle.dc_check.specs.Phases.{Phased, SameItems, change_at, span_at, tree_at, tree_led, with_phases}
use Rattle.dc_check.proofs.Items.{has, contains, has-map, map-has}

-- the first that passes both tests is the first of those that pass one
find-filter : {A : Type 0} (p q : A → Bool) (xs : List A) → find (λ x. p x && q x) xs ≡ find q (filter p xs)
find-filter p q [] = refl
find-filter p q (x ∷ xs) = elim (p x) as (λ b. cond (b && q x) (Some x) (find (λ y. p y && q y) xs) ≡ find q (cond b (x ∷ filter p xs) (filter p xs))) [
  | true ↦ ap (λ rest. cond (q x) (Some x) rest) (find-filter p q xs)
  | false ↦ find-filter p q xs
]

change_same : (limit : ℕ) (t : Tree) (at : ℕ) (stamps sorted : List Stamp) → IsByPoint stamps sorted → change_at limit t at sorted ≡ change_at limit t at stamps
change_same limit t at stamps sorted is =
    find-filter (λ s. s.at == at) (λ s. alters limit t s.request) sorted ∙ ap (find (λ s. alters limit t s.request)) (is.stable at) ∙ sym (find-filter (λ s. s.at == at) (λ s. alters limit t s.request) stamps)

-- the trees don't ask in which order the stamps stand that have one point
pub tree_same : (limit at : ℕ) (stamps sorted : List Stamp) → IsByPoint stamps sorted → tree_at limit sorted at ≡ tree_at limit stamps at
unfolding tree_at
tree_same limit zero stamps sorted is = refl
tree_same limit (suc at) stamps sorted is =
    let before = tree_same limit at stamps sorted is in
    ap (λ (t : Tree). tree_led limit t (change_at limit t at sorted)) before ∙ ap (tree_led limit (tree_at limit stamps at)) (change_same limit (tree_at limit stamps at) at stamps sorted is)

span_same : (limit : ℕ) (stamps sorted : List Stamp) → IsByPoint stamps sorted → (p : Phased) → span_at limit sorted p ≡ span_at limit stamps p
span_same limit stamps sorted is p = λ i. record {
  phase = p.phase;
  at = p.stamp.at;
  end = cond (alters limit (tree_same limit p.stamp.at stamps sorted is i) p.stamp.request) (p.stamp.at + 1) p.stamp.at;
}

-- the order of phases is one of items
same_order : (f g : Phased → Span) (xs ys : List Phased) → ((p : Phased) → f p ≡ g p) → ((p : Phased) → Contains ys p → Contains xs p) → InPhases (map f xs) → InPhases (map g ys)
same_order f g xs ys same within is a b in_a in_b less =
    let p = has-map g ys a (has (map g ys) a in_a) in
    let q = has-map g ys b (has (map g ys) b in_b) in
    let a_is : f p.0 ≡ a = same p.0 ∙ p.2 in
    let b_is : f q.0 ≡ b = same q.0 ∙ q.2 in
    let has_p = contains (map f xs) (f p.0) (map-has f xs p.0 (has xs p.0 (within p.0 (contains ys p.0 p.1)))) in
    let has_q = contains (map f xs) (f q.0) (map-has f xs q.0 (has xs q.0 (within q.0 (contains ys q.0 q.1)))) in
    is a b (subst (Contains (map f xs)) a_is has_p) (subst (Contains (map f xs)) b_is has_q) less

pub phased_same : (limit : ℕ) (phased sorted : List Phased) (stamps ordered : List Stamp) (spans : List Span) → IsByPoint stamps ordered → SameItems phased sorted → spans ≡ map (span_at limit ordered) sorted
    → InPhases spans ↔ InPhases (map (span_at limit stamps) phased)
phased_same limit phased sorted stamps ordered spans is same e = (
  λ kept. same_order (span_at limit ordered) (span_at limit stamps) sorted phased (span_same limit stamps ordered is) (λ p. (same p).0) (subst InPhases e kept),
  λ kept. subst InPhases (sym e) (same_order (span_at limit stamps) (span_at limit ordered) phased sorted (λ p. sym (span_same limit stamps ordered is p)) (λ p. (same p).1) kept),
)

-- stamps with phases, one after the other
pub next_phase : (phases : List ℕ) (i : ℕ) (s : Stamp) (ss : List Stamp) → with_phases (drop i phases) (s ∷ ss) ≡ record { phase = get_or phases i 0; stamp = s } ∷ with_phases (drop (suc i) phases) ss
next_phase [] zero s ss = refl
next_phase [] (suc i) s ss = refl
next_phase (p ∷ ps) zero s ss = refl
next_phase (p ∷ ps) (suc i) s ss = next_phase ps i s ss

pub stamps_with : (phases : List ℕ) (ss : List Stamp) → map (λ p. p.stamp) (with_phases phases ss) ≡ ss
stamps_with phases [] = refl
stamps_with [] (s ∷ ss) = ap (λ l. s ∷ l) (stamps_with [] ss)
stamps_with (p ∷ ps) (s ∷ ss) = ap (λ l. s ∷ l) (stamps_with ps ss)

-- the mark of a stamp as it is taken
pub marked : (judge next : Judge) (p : Phased) (ps : List Phased) (altered : Bool) → altered ≡ alters_at judge p.stamp → next ≡ taken judge p.stamp
    → spans_in judge (p ∷ ps) ≡ record { phase = p.phase; at = p.stamp.at; end = cond altered (p.stamp.at + 1) p.stamp.at } ∷ spans_in next ps
marked judge next p ps altered is then' = λ i. record { phase = p.phase; at = p.stamp.at; end = cond (sym is i) (p.stamp.at + 1) p.stamp.at } ∷ spans_in (sym then' i) ps
