-- What a stable sort by points gives.
use Rattle.std.proofs.Common.{◌≡◌, ℕ, suc, ◌<◌, ◌≤◌, ◌==◌, ◌&&◌, ◌⊎◌, not, Bool, true, false, cond, List, [], ◌∷◌, length, get_or, map, filter, refl, sym, ap, ◌∙◌, subst, inl, inr, arith}
use Rattle.std.specs.List.Sorted.{ties, IsStableByKey, IsNonDecreasingBy}
use Rattle.std.specs.Ordering.{nat_cmp, is_lt}
use Rattle.std.proofs.lemmas.Bool.Decides.{eqb_tells, nat_tests}
use Rattle.dc_plain.specs.Legal.{Stamp}
use Rattle.std.proofs.lemmas.List.Sorted.{Contains-permutation, IsPermutation-map, IsPermutation-sym}
use Rattle.std.proofs.lemmas.Simd.{map-map}
use Rattle.std.specs.Prelude.{Contains, IsPermutation}
use Rattle.dc_check.specs.declared.stamp.Numbered as rust_numbered
use Rattle.dc_check.specs.Judges.{AreByPoint, all_numbered, all_phased, numbered_of, phased_of}
use Rattle.dc_check.specs.Judging.{Rises, IsByPoint}
use Rattle.dc_check.specs.Phases.{Phased, SameItems, with_phases}
use Rattle.dc_check.proofs.InOrder.{stamps_with}

-- two tests that agree keep the same
filter_same : {X : Type 0} (p q : X → Bool) → ((x : X) → p x ≡ q x) → (xs : List X) → filter p xs ≡ filter q xs
filter_same p q e [] = refl
filter_same p q e (x ∷ xs) = ap (λ b. cond b (x ∷ filter p xs) (filter p xs)) (e x) ∙ ap (λ rest. cond (q x) (x ∷ rest) rest) (filter_same p q e xs)

tie : (m n : ℕ) → (not (is_lt (nat_cmp m n)) && not (is_lt (nat_cmp n m))) ≡ (n == m)
tie m n = grind (arith, nat_tests)

-- an element with this key, or none is kept
some_or_none : {X : Type 0} (key : X → ℕ) (at : ℕ) (xs : List X) → ((x : X) × (key x ≡ at)) ⊎ (filter (λ x. key x == at) xs ≡ [])
some_or_none key at [] = inr refl
some_or_none key at (x ∷ xs) = elim (eqb_tells (key x) at) [
  | inl here ↦ inl (x, here.1)
  | inr other ↦ elim (some_or_none key at xs) [
    | inl later ↦ inl later
    | inr none ↦ inr (ap (λ b. cond b (x ∷ filter (λ y. key y == at) xs) (filter (λ y. key y == at) xs)) other.0 ∙ none)
  ]
]

stable_at : {X : Type 0} (key : X → ℕ) (xs ys : List X) → IsStableByKey key nat_cmp xs ys → (x : X) → filter (λ y. key y == key x) ys ≡ filter (λ y. key y == key x) xs
stable_at key xs ys stable x =
    sym (filter_same (ties (λ a b. is_lt (nat_cmp (key a) (key b))) x) (λ y. key y == key x) (λ y. tie (key x) (key y)) ys)
    ∙ stable x
    ∙ filter_same (ties (λ a b. is_lt (nat_cmp (key a) (key b))) x) (λ y. key y == key x) (λ y. tie (key x) (key y)) xs

stable_everywhere : {X : Type 0} (key : X → ℕ) (xs ys : List X) → IsStableByKey key nat_cmp xs ys → (at : ℕ) → filter (λ y. key y == at) ys ≡ filter (λ y. key y == at) xs
stable_everywhere key xs ys stable at = elim (some_or_none key at ys) [
  | inl found ↦ subst (λ a. filter (λ y. key y == a) ys ≡ filter (λ y. key y == a) xs) found.1 (stable_at key xs ys stable found.0)
  | inr none ↦ elim (some_or_none key at xs) [
    | inl found ↦ subst (λ a. filter (λ y. key y == a) ys ≡ filter (λ y. key y == a) xs) found.1 (stable_at key xs ys stable found.0)
    | inr neither ↦ none ∙ sym neither
  ]
]

shown_filter : {X : Type 0} (shown : X → Stamp) (at : ℕ) (xs : List X) → filter (λ s. s.at == at) (map shown xs) ≡ map shown (filter (λ x. (shown x).at == at) xs)
shown_filter shown at [] = refl
shown_filter shown at (x ∷ xs) = go ((shown x).at == at) (shown_filter shown at xs)
  where
    go : (b : Bool) → filter (λ s. s.at == at) (map shown xs) ≡ map shown (filter (λ y. (shown y).at == at) xs)
        → cond b (shown x ∷ filter (λ s. s.at == at) (map shown xs)) (filter (λ s. s.at == at) (map shown xs)) ≡ map shown (cond b (x ∷ filter (λ y. (shown y).at == at) xs) (filter (λ y. (shown y).at == at) xs))
    go true rest = ap (λ ss. shown x ∷ ss) rest
    go false rest = rest

shown_rises : {X : Type 0} (shown : X → Stamp) (low : ℕ) (xs : List X) → ((d : X) → 0 < length xs → low ≤ (shown (get_or xs 0 d)).at) → IsNonDecreasingBy (λ x. (shown x).at) xs → Rises low (map shown xs)
shown_rises shown low [] first up = tt
shown_rises shown low (x ∷ xs) first up = (
  first x (omega arith),
  shown_rises shown (shown x).at xs (λ d some. up 0 1 d (omega arith) (omega arith)) (λ i j d le within. up (suc i) (suc j) d (omega arith) (omega arith)),
)

by_point_from_sort : {X : Type 0} (shown : X → Stamp) (xs ys : List X) (stamps : List Stamp) → map shown xs ≡ stamps → IsNonDecreasingBy (λ x. (shown x).at) ys → IsStableByKey (λ x. (shown x).at) nat_cmp xs ys
    → IsByPoint stamps (map shown ys)
by_point_from_sort shown xs ys stamps is up stable = record {
  rises = shown_rises shown 0 ys (λ d some. omega arith) up;
  stable = λ at. shown_filter shown at ys ∙ ap (map shown) (stable_everywhere (λ x. (shown x).at) xs ys stable at) ∙ sym (shown_filter shown at xs) ∙ ap (filter (λ s. s.at == at)) is;
}

same_items : (phased was now : List Phased) → was ≡ phased → IsPermutation was now → SameItems phased now
same_items phased was now is shuffled = λ one. (
  λ in_was. Contains-permutation was now one shuffled (subst (λ (ps : List Phased). Contains ps one) (sym is) in_was),
  λ in_now. subst (λ (ps : List Phased). Contains ps one) is (Contains-permutation now was one (IsPermutation-sym was now shuffled) in_now),
)

-- stamps with their phases, once they are sorted
pub sorted_are : (phases : List ℕ) (stamps : List Stamp) (was now : List rust_numbered.Numbered) → all_phased was ≡ with_phases phases stamps → IsPermutation was now
    → IsNonDecreasingBy (λ (n : rust_numbered.Numbered). (numbered_of n).at) now → IsStableByKey (λ (n : rust_numbered.Numbered). (numbered_of n).at) nat_cmp was now → AreByPoint phases stamps now
sorted_are phases stamps was now is shuffled up stable =
    let bare : all_numbered was ≡ stamps = sym (map-map (λ (p : Phased). p.stamp) phased_of was) ∙ ap (map (λ p. p.stamp)) is ∙ stamps_with phases stamps in
    record {
      by_point = by_point_from_sort numbered_of was now stamps bare up stable;
      phased = same_items (with_phases phases stamps) (all_phased was) (all_phased now) is (IsPermutation-map phased_of was now shuffled);
    }
