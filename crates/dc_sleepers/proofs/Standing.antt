-- Where an element stands that passes a test, and how many do.
use Rattle.std.proofs.Common.{◌≡◌, ◌≢◌, ℕ, suc, zero, ◌+◌, ◌<◌, ◌≤◌, ◌⊎◌, inl, inr, Bool, true, false, cond, List, [], ◌∷◌, length, get_or, set, map, replicate, sym, ap, ◌∙◌, subst, arith, refl, get_or-set_same, get_or-set_other}
use Rattle.std.specs.List.{count_by}
use Rattle.std.proofs.lemmas.Bool.{cases_eq}
use Rattle.std.proofs.lemmas.List.{length-set}
use Rattle.std.proofs.lemmas.List.Sums.{get_or-le-sum_by}
use Rattle.dc_sleepers.proofs.Counts.{one, count_moved, count_cons}

pub either : (b : Bool) → (b ≡ true) ⊎ (b ≡ false)
either true = inl refl
either false = inr refl

pub one_below : (b : Bool) → one b ≤ 1
one_below true = omega arith
one_below false = omega arith

-- one that passes is counted
pub counts : {X : Type 0} (test : X → Bool) (xs : List X) (i : ℕ) (d : X) → i < length xs → test (get_or xs i d) ≡ true → 0 < count_by test xs
counts test xs i d inside e = let few : one (test (get_or xs i d)) ≤ count_by test xs = get_or-le-sum_by (λ x. cond (test x) 1 0) xs i d inside in let passes : one (test (get_or xs i d)) ≡ 1 = ap one e in omega arith

-- if any is counted, one stands somewhere
pub found : {X : Type 0} (test : X → Bool) (d : X) (xs : List X) → 0 < count_by test xs → (i : ℕ) × ((i < length xs) × (test (get_or xs i d) ≡ true))
found test d [] some = absurd (omega arith)
found {X} test d (x ∷ xs) some = elim (either (test x)) [
  | inl passes ↦ (0, (omega arith, passes))
  | inr fails ↦ let none : one (test x) ≡ 0 = ap one fails in let later : (i : ℕ) × ((i < length xs) × (test (get_or xs i d) ≡ true)) = found test d xs (omega (arith, count_cons test x xs)) in
      (suc later.0, (omega (arith, later.1.0), later.1.1))
]

-- each of a list in which one is another
pub each_set : {X : Type 0} (P : X → Type 0) (xs : List X) (t : ℕ) (y d : X) → t < length xs → ((k : ℕ) → k ≢ t → P (get_or xs k d)) → P y → (k : ℕ) → P (get_or (set xs t y) k d)
each_set P xs t y d inside others mine k = elim (cases_eq k t) [
  | inl same ↦ subst P (sym (ap (λ i. get_or (set xs t y) i d) same ∙ get_or-set_same xs t y d inside)) mine
  | inr other ↦ subst P (sym (get_or-set_other xs t k y d other)) (others k other)
]

-- if one alone passes, another doesn't
pub only_one : {X : Type 0} (test : X → Bool) (xs : List X) (i j : ℕ) (d : X) → test d ≡ false → count_by test xs ≡ 1 → i < length xs → j < length xs → test (get_or xs i d) ≡ true → test (get_or xs j d) ≡ true → i ≢ j → ⊥
only_one test xs i j d fails just inside there first second apart =
    let m : count_by test (set xs i d) + one (test (get_or xs i d)) ≡ count_by test xs + one (test d) = count_moved test xs i d (get_or xs i d) d inside refl in
    let still : get_or (set xs i d) j d ≡ get_or xs j d = get_or-set_other xs i j d d (λ same. apart (sym same)) in
    let more : 0 < count_by test (set xs i d) = counts test (set xs i d) j d (omega (arith, length-set xs i d)) (ap test still ∙ second) in
    let passes : one (test (get_or xs i d)) ≡ 1 = ap one first in let none : one (test d) ≡ 0 = ap one fails in omega arith

pub count_map : {X : Type 0} (test : X → Bool) (f : X → X) → ((x : X) → test (f x) ≡ test x) → (xs : List X) → count_by test (map f xs) ≡ count_by test xs
count_map test f same [] = refl
count_map test f same (x ∷ xs) = let rest : count_by test (map f xs) ≡ count_by test xs = count_map test f same xs in let first : one (test (f x)) ≡ one (test x) = ap one (same x) in omega (arith, rest, first, count_cons test (f x) (map f xs), count_cons test x xs)

-- what passes one test where it stands passes the other
pub count_each : {X : Type 0} (test wider : X → Bool) (d : X) (xs : List X) → ((k : ℕ) → one (test (get_or xs k d)) ≤ one (wider (get_or xs k d))) → count_by test xs ≤ count_by wider xs
count_each test wider d [] each = omega arith
count_each test wider d (x ∷ xs) each = let rest : count_by test xs ≤ count_by wider xs = count_each test wider d xs (λ k. each (suc k)) in let first : one (test x) ≤ one (wider x) = each 0 in omega (arith, rest, first, count_cons test x xs, count_cons wider x xs)

-- what passes one test passes one of two others
pub count_split : {X : Type 0} (test a b : X → Bool) → ((x : X) → one (test x) ≤ one (a x) + one (b x)) → (xs : List X) → count_by test xs ≤ count_by a xs + count_by b xs
count_split test a b each [] = omega arith
count_split test a b each (x ∷ xs) = let rest : count_by test xs ≤ count_by a xs + count_by b xs = count_split test a b each xs in omega (arith, each x, rest, count_cons test x xs, count_cons a x xs, count_cons b x xs)

pub get_same : {X : Type 0} (n i : ℕ) (d : X) → get_or (replicate n d) i d ≡ d
get_same zero i d = refl
get_same (suc n) zero d = refl
get_same (suc n) (suc i) d = get_same n i d
