-- Numbers among others, and each of some numbers once.
use Rattle.std.proofs.Common.{◌≡◌, ℕ, List, [], ◌∷◌, ◌++◌, ◌||◌, ◌==◌, Bool, true, false, cond, Option, Some, None, refl, ap, sym, subst, ◌∙◌, arith}
use Rattle.std.proofs.lemmas.Bool.Decides.{nat_tests}
use Rattle.std.proofs.lemmas.List.Folds.{list_any-append}
use Rattle.dc_trail.specs.Keeping.{entered}
use Rattle.dc_trail.specs.Questions.{is_among, firsts}

pub same_test : (n : ℕ) → (n == n) ≡ true
same_test n = grind (arith, nat_tests)

pub decided : (m n : ℕ) → (m == n) ≡ true → m ≡ n
decided m n e = grind (arith, nat_tests)

or_true : (b : Bool) → (b || true) ≡ true
or_true true = refl
or_true false = refl

pub among_last : (seen : List ℕ) (d : ℕ) → is_among (seen ++ d ∷ []) d ≡ true
among_last seen d = list_any-append (λ m. m == d) seen (d ∷ []) ∙ ap (λ b. is_among seen d || (b || false)) (same_test d) ∙ or_true (is_among seen d)

pub among_more : (seen : List ℕ) (d n : ℕ) → is_among seen n ≡ true → is_among (seen ++ d ∷ []) n ≡ true
among_more seen d n is = list_any-append (λ m. m == n) seen (d ∷ []) ∙ ap (λ b. b || is_among (d ∷ []) n) is

pub among_entered : (dirs : List ℕ) (d : ℕ) → is_among (entered dirs d) d ≡ true
among_entered dirs d =
    elim (is_among dirs d) as (λ b. is_among dirs d ≡ b → is_among (cond b dirs (dirs ++ d ∷ [])) d ≡ true) [
      | true ↦ λ is. is
      | false ↦ λ is. among_last dirs d
    ] refl

-- the first of some numbers that wasn't seen
abbrev pub first_new : List ℕ → List ℕ → Option ℕ
first_new seen [] = None
first_new seen (n ∷ ns) = cond (is_among seen n) (first_new seen ns) (Some n)

pub firsts_none : (seen ns : List ℕ) → first_new seen ns ≡ None → firsts seen ns ≡ []
firsts_none seen [] e = refl
firsts_none seen (n ∷ ns) e =
    elim (is_among seen n) as (λ b. cond b (first_new seen ns) (Some n) ≡ None → cond b (firsts seen ns) (n ∷ firsts (seen ++ n ∷ []) ns) ≡ []) [
      | true ↦ λ h. firsts_none seen ns h
      | false ↦ λ h. cc
    ] e

at_first : (seen ns : List ℕ) (d : ℕ) → d ∷ firsts (seen ++ d ∷ []) ns ≡ d ∷ cond (is_among (seen ++ d ∷ []) d) (firsts (seen ++ d ∷ []) ns) (d ∷ firsts ((seen ++ d ∷ []) ++ d ∷ []) ns)
at_first seen ns d = ap (λ b. d ∷ cond b (firsts (seen ++ d ∷ []) ns) (d ∷ firsts ((seen ++ d ∷ []) ++ d ∷ []) ns)) (sym (among_last seen d))

-- it comes first, and then those that are new with it
pub firsts_some : (seen ns : List ℕ) (d : ℕ) → first_new seen ns ≡ Some d → firsts seen ns ≡ d ∷ firsts (seen ++ d ∷ []) ns
firsts_some seen [] d e = cc
firsts_some seen (n ∷ ns) d e =
    elim (is_among seen n) as (λ b. is_among seen n ≡ b → cond b (first_new seen ns) (Some n) ≡ Some d
    → cond b (firsts seen ns) (n ∷ firsts (seen ++ n ∷ []) ns) ≡ d ∷ cond (is_among (seen ++ d ∷ []) n) (firsts (seen ++ d ∷ []) ns) (n ∷ firsts ((seen ++ d ∷ []) ++ n ∷ []) ns)) [
      | true ↦ λ is h. firsts_some seen ns d h ∙ ap (λ b. d ∷ cond b (firsts (seen ++ d ∷ []) ns) (n ∷ firsts ((seen ++ d ∷ []) ++ n ∷ []) ns)) (sym (among_more seen d n is))
      | false ↦ λ is h.
          let same : d ≡ n = cc in
          subst (λ k. k ∷ firsts (seen ++ k ∷ []) ns ≡ d ∷ cond (is_among (seen ++ d ∷ []) k) (firsts (seen ++ d ∷ []) ns) (k ∷ firsts ((seen ++ d ∷ []) ++ k ∷ []) ns)) same (at_first seen ns d)
    ] refl e
