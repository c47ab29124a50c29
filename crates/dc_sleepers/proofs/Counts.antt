-- How many elements pass a test, when one is another.
use Rattle.std.proofs.Common.{◌≡◌, ℕ, suc, zero, ◌+◌, ◌<◌, ◌≤◌, Bool, false, cond, List, [], ◌∷◌, length, get_or, set, replicate, sym, ap, ◌∙◌, subst, arith, refl, ◌≢◌, inl, inr}
use Rattle.std.specs.List.{count_by}
use Rattle.std.proofs.lemmas.Bool.{cases_lt}
use Rattle.std.proofs.lemmas.List.{get_or_past}
use Rattle.std.proofs.lemmas.List.Sums.{sum_by-set, sum_by-cons}

abbrev pub one : Bool → ℕ
one b = cond b 1 0

-- the element at this place was x, and now is y
pub count_moved : {X : Type 0} (test : X → Bool) (xs : List X) (i : ℕ) (d x y : X) → i < length xs → get_or xs i d ≡ x → count_by test (set xs i y) + one (test x) ≡ count_by test xs + one (test y)
count_moved {X} test xs i d x y inside e = subst (λ z. count_by test (set xs i y) + one (test z) ≡ count_by test xs + one (test y)) e (sum_by-set (λ z. cond (test z) 1 0) xs i y d inside)

pub count_cons : {X : Type 0} (test : X → Bool) (x : X) (xs : List X) → count_by test (x ∷ xs) ≡ one (test x) + count_by test xs
count_cons test x xs = sum_by-cons (λ z. cond (test z) 1 0) x xs

-- what passes one test passes the other
pub count_below : {X : Type 0} (test wider : X → Bool) → ((x : X) → one (test x) ≤ one (wider x)) → (xs : List X) → count_by test xs ≤ count_by wider xs
count_below test wider each [] = omega arith
count_below test wider each (x ∷ xs) = let below : count_by test xs ≤ count_by wider xs = count_below test wider each xs in omega (arith, each x, below, count_cons test x xs, count_cons wider x xs)

-- none of these passes
pub count_none : {X : Type 0} (test : X → Bool) (x : X) → test x ≡ false → (n : ℕ) → count_by test (replicate n x) ≡ 0
count_none test x fails zero = refl
count_none test x fails (suc n) = let rest : count_by test (replicate n x) ≡ 0 = count_none test x fails n in let first : one (test x) ≡ 0 = ap one fails in omega (arith, first, rest, count_cons test x (replicate n x))

-- none of those that stand here passes
pub count_without : {X : Type 0} (test : X → Bool) (xs : List X) (d : X) → ((k : ℕ) → test (get_or xs k d) ≡ false) → count_by test xs ≡ 0
count_without test [] d fails = refl
count_without test (x ∷ xs) d fails = let rest : count_by test xs ≡ 0 = count_without test xs d (λ k. fails (suc k)) in let first : one (test x) ≡ 0 = ap one (fails 0) in omega (arith, first, rest, count_cons test x xs)

-- what isn't the default stands in the list
pub within : {X : Type 0} (xs : List X) (k : ℕ) (d x : X) → get_or xs k d ≡ x → x ≢ d → k < length xs
within xs k d x e other = elim (cases_lt k (length xs)) [ inl inside ↦ inside | inr past ↦ absurd (other (sym e ∙ get_or_past xs k d past)) ]
