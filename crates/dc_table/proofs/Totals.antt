-- Sums over the passes.
use Rattle.std.proofs.Common.{◌≡◌, ℕ, zero, suc, ◌+◌, ◌-◌, ◌*◌, ◌^◌, ◌≤◌, ◌≢◌, List, [], ◌∷◌, ◌++◌, map, set, sym, refl, ap, arith, pow-suc}
use mathlib.Core.Option.{some, some-injective, some-ne-none}
use lib.ListN.{get_elem?}
use Rattle.dc_events.specs.Rule.{total}
use Rattle.dc_table.specs.Shares.{Known, weight}

module _ {A : Type 0} (f : A → ℕ) where
  pub total_set : (l : List A) (i : ℕ) (v w : A) → get_elem? l i ≡ some v → total f (set l i w) + f v ≡ total f l + f w
  total_set [] i v w e = absurd (some-ne-none v (sym e))
  total_set (x ∷ xs) zero v w e = let is : f x ≡ f v = ap f (some-injective x v e) in omega arith
  total_set (x ∷ xs) (suc i) v w e = let r = total_set xs i v w e in omega arith

  pub total_snoc : (l : List A) (w : A) → total f (l ++ w ∷ []) ≡ total f l + f w
  total_snoc [] w = omega arith
  total_snoc (x ∷ xs) w = let r = total_snoc xs w in omega arith

  pub total_at : (l : List A) (i : ℕ) (v : A) → get_elem? l i ≡ some v → f v ≤ total f l
  total_at [] i v e = absurd (some-ne-none v (sym e))
  total_at (x ∷ xs) zero v e = let is : f x ≡ f v = ap f (some-injective x v e) in omega arith
  total_at (x ∷ xs) (suc i) v e = let r = total_at xs i v e in omega arith

  -- at two different places
  pub total_two : (l : List A) (i j : ℕ) (v w : A) → i ≢ j → get_elem? l i ≡ some v → get_elem? l j ≡ some w → f v + f w ≤ total f l
  total_two [] i j v w ne e d = absurd (some-ne-none v (sym e))
  total_two (x ∷ xs) zero zero v w ne e d = absurd (ne refl)
  total_two (x ∷ xs) zero (suc j) v w ne e d = let is : f x ≡ f v = ap f (some-injective x v e) in let r = total_at xs j w d in omega arith
  total_two (x ∷ xs) (suc i) zero v w ne e d = let is : f x ≡ f w = ap f (some-injective x w d) in let r = total_at xs i v e in omega arith
  total_two (x ∷ xs) (suc i) (suc j) v w ne e d = let r = total_two xs i j v w (λ h. ne (ap suc h)) e d in omega arith

  total_none : (l : List A) → ((j : ℕ) (w : A) → get_elem? l j ≡ some w → f w ≡ 0) → total f l ≡ 0
  total_none [] zeros = refl
  total_none (x ∷ xs) zeros = let a = zeros 0 x refl in let b = total_none xs (λ j. zeros (suc j)) in omega arith

  -- if only one counts
  pub total_only : (l : List A) (i : ℕ) (v : A) → get_elem? l i ≡ some v → ((j : ℕ) (w : A) → j ≢ i → get_elem? l j ≡ some w → f w ≡ 0) → total f l ≡ f v
  total_only [] i v e zeros = absurd (some-ne-none v (sym e))
  total_only (x ∷ xs) zero v e zeros = let is : f x ≡ f v = ap f (some-injective x v e) in let b = total_none xs (λ j w. zeros (suc j) w (λ h. omega arith)) in omega arith
  total_only (x ∷ xs) (suc i) v e zeros = let a = zeros 0 x (λ h. omega arith) refl in let b = total_only xs i v e (λ j w ne. zeros (suc j) w (λ h. ne (omega arith))) in omega arith

pub total_map : {A B : Type 0} (f : B → ℕ) (g : A → B) (l : List A) → total f (map g l) ≡ total (λ x. f (g x)) l
total_map f g [] = refl
total_map f g (x ∷ xs) = ap (λ n. f (g x) + n) (total_map f g xs)

double : (n t h : ℕ) → h ≤ t → n * 2 ^ (suc t - h) ≡ 2 * (n * 2 ^ (t - h))
double n t h le = let e : suc t - h ≡ suc (t - h) = omega arith in let p : ℕ = 2 ^ (t - h) in rw (e, pow-suc) (grind arith)

pub weight_doubles : (t : ℕ) (k : Known) → k.share.halvings ≤ t → weight (suc t) k ≡ 2 * weight t k
weight_doubles t k le = double k.share.parts t k.share.halvings le

pub total_doubles : (t : ℕ) (l : List Known) → ((j : ℕ) (k : Known) → get_elem? l j ≡ some k → k.share.halvings ≤ t) → total (weight (suc t)) l ≡ 2 * total (weight t) l
total_doubles t [] le = refl
total_doubles t (x ∷ xs) le = let a = weight_doubles t x (le 0 x refl) in let b = total_doubles t xs (λ j. le (suc j)) in omega arith
