-- The refusal that has a number.
use Rattle.std.proofs.Common.{◌≡◌, ◌==◌, ℕ, Bool, true, false, cond, List, [], ◌∷◌, Some, refl, subst}
use Rattle.std.specs.List.{find}
use Rattle.std.proofs.lemmas.Bool.{eqb-true}
use Rattle.dc_names.specs.Refusals.{IsRefusalOf, refusal_number, refusal_with}
use Rattle.dc_names.specs.declared.refusal.Refusal.{Refusal}
use Rattle.dc_names.specs.declared.refusal.Refusal.TheVariants.{NotPermitted, NotFound, Busy, Exists, NotDirectory, IsDirectory, Invalid, NoSpace, TooManyNames, NameTooLong, NotEmpty, TooManyLinks}
use Rattle.dc_names.specs.declared.refusal.TheConstants.{REFUSALS}

-- what is found passes the test
found_passes : {A : Type 0} (p : A → Bool) (xs : List A) (a : A) → find p xs ≡ Some a → p a ≡ true
found_passes p [] a found = absurd (cc)
found_passes p (x ∷ xs) a found = elim (p x) as (λ t. p x ≡ t → cond t (Some x) (find p xs) ≡ Some a → p a ≡ true) [
  | true ↦ λ is here. let same : x ≡ a = cc in subst (λ b. p b ≡ true) same is
  | false ↦ λ is later. found_passes p xs a later
] refl found

each_found : (refusal : Refusal) → refusal_with (refusal_number refusal) ≡ Some refusal
each_found NotPermitted = refl
each_found NotFound = refl
each_found Busy = refl
each_found Exists = refl
each_found NotDirectory = refl
each_found IsDirectory = refl
each_found Invalid = refl
each_found NoSpace = refl
each_found TooManyNames = refl
each_found NameTooLong = refl
each_found NotEmpty = refl
each_found TooManyLinks = refl

pub numbers_found : (number : ℕ) → IsRefusalOf number (refusal_with number)
numbers_found number refusal = (
  λ found. eqb-true (refusal_number refusal) number (found_passes (λ r. refusal_number r == number) REFUSALS refusal found),
  λ same. subst (λ (n : ℕ). refusal_with n ≡ Some refusal) same (each_found refusal),
)
