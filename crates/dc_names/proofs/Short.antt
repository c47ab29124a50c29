-- The pieces of a short text, and tests that look at each byte.
use Rattle.std.proofs.Common.{◌≡◌, ℕ, suc, ◌≤◌, ◌==◌, ◌||◌, ◌∷◌, [], List, length, Bool, true, false, cond, refl, arith, nat_lt}
use Rattle.std.specs.List.{onto_first, list_any, fold, AllByRecursion}
use Rattle.std.proofs.lemmas.Bool.Decides.{nat_tests}
use Rattle.dc_names.specs.Bytes.{pieces}

abbrev Short : ℕ → List ℕ → Type 0
Short n piece = length piece ≤ n

longer : (n : ℕ) (ps : List (List ℕ)) → AllByRecursion (Short n) ps → AllByRecursion (Short (suc n)) ps
longer n [] all = tt
longer n (p ∷ ps) all = let here : length p ≤ n = all.0 in (omega arith, longer n ps all.1)

onto_short : (n b : ℕ) (ps : List (List ℕ)) → AllByRecursion (Short n) ps → AllByRecursion (Short (suc n)) (onto_first b ps)
onto_short n b [] all = (omega arith, tt)
onto_short n b (p ∷ ps) all = let here : length p ≤ n = all.0 in (omega arith, longer n ps all.1)

-- no piece is longer than the text
short_pieces : (text : List ℕ) → AllByRecursion (Short (length text)) (pieces text)
short_pieces [] = (omega arith, tt)
short_pieces (b ∷ bs) =
    let more = short_pieces bs in
    elim (b == 47) as (λ t. AllByRecursion (Short (suc (length bs))) (cond t ([] ∷ pieces bs) (onto_first b (pieces bs)))) [
      | true ↦ (omega arith, longer (length bs) (pieces bs) more)
      | false ↦ onto_short (length bs) b (pieces bs) more
    ]

none_long : (n m : ℕ) (ps : List (List ℕ)) → n ≤ m → AllByRecursion (Short n) ps → list_any (λ piece. nat_lt m (length piece)) ps ≡ false
none_long n m [] le all = refl
none_long n m (p ∷ ps) le all =
    let here : length p ≤ n = all.0 in
    let test : nat_lt m (length p) ≡ false = grind (arith, nat_tests) in
    rw test (none_long n m ps le all.1)

pub none_long_in : (m : ℕ) (text : List ℕ) → length text ≤ m → list_any (λ piece. nat_lt m (length piece)) (pieces text) ≡ false
none_long_in m text le = none_long (length text) m (pieces text) le (short_pieces text)

-- a test of all elements, and one that stops at the first
pub any_by_fold : {X : Type 0} (p : X → Bool) (found : Bool) (xs : List X) → fold (λ a x. a || p x) found xs ≡ (found || list_any p xs)
any_by_fold p true [] = refl
any_by_fold p false [] = refl
any_by_fold p true (x ∷ xs) = any_by_fold p true xs
any_by_fold p false (x ∷ xs) = any_by_fold p (p x) xs
