-- A row that is put first in its bucket, and the last of the rows of a bucket that are listed.
use Rattle.std.proofs.Common.{◌≡◌, ℕ, ◌+◌, ◌-◌, ◌<◌, ◌≤◌, Bool, true, false, cond, not, ◌||◌, ltb, add-one, List, [], ◌∷◌, ◌++◌, length, take, drop, get_or, reverse, Option, Some, None, refl, ap, sym, ◌∙◌, arith, nat_eq, zero, suc}
use Rattle.std.specs.List.{filter, find, prefix_len, position_or_len}
use Rattle.std.specs.Option.{option_or}
use Rattle.std.proofs.lemmas.Bool.{eqb-true, eq-eqb, ltb-true, ltb-false}
use Rattle.std.proofs.lemmas.List.{reverse-append}
use Rattle.std.proofs.lemmas.Option.{slice_get-get_or}
use Rattle.std.proofs.lemmas.List.Folds.{find-append}
use Rattle.std.proofs.lemmas.List.Sums.{passes_at_first}
use Rattle.dc_shrink.specs.Listings.{is_in, without, last_of}
use Rattle.dc_shrink.proofs.Lists.{without_absent, absent_of_count}

here_in : (row : ℕ) (xs : List ℕ) (at : ℕ) → at < length xs → get_or xs at 0 ≡ row → is_in xs row ≡ true
here_in row [] at below e = absurd (omega arith)
here_in row (x ∷ xs) zero below e = rw (eq-eqb row x (sym e)) refl
here_in row (x ∷ xs) (suc at) below e = let rest = here_in row xs at (omega arith) e in elim (nat_eq row x) as (λ a. (a || is_in xs row) ≡ true) [ true ↦ refl | false ↦ rest ]

-- what is left of a list that has the row once
pub without_at : (row : ℕ) (xs : List ℕ) (at : ℕ) → at < length xs → get_or xs at 0 ≡ row → length (filter (nat_eq row) xs) ≡ 1 → without row xs ≡ take at xs ++ drop (suc at) xs
without_at row [] at below e one = absurd (omega arith)
without_at row (x ∷ xs) zero below e one = let rest : length (filter (nat_eq row) xs) ≡ 0 = (let s = rw (eq-eqb row x (sym e)) at one in omega arith) in
    rw (eq-eqb row x (sym e)) (without_absent row xs (absent_of_count row xs rest))
without_at row (x ∷ xs) (suc at) below e one = (elim (nat_eq row x) as (λ a. length (cond a (x ∷ filter (nat_eq row) xs) (filter (nat_eq row) xs)) ≡ 1 → cond (not a) (x ∷ without row xs) (without row xs) ≡ x ∷ (take at xs ++ drop (suc at) xs)) [
  | true ↦ λ s. let none = absent_of_count row xs (omega arith) in let some = here_in row xs at (omega arith) e in cc
  | false ↦ λ s. ap (λ ys. x ∷ ys) (without_at row xs at (omega arith) e s)
]) one

-- its front up to there, by the last and by the others
front : (row : ℕ) (xs : List ℕ) (at : ℕ) → at < length xs → get_or xs at 0 ≡ row → (length (take (suc at) xs) ≡ suc at) × (drop at (take (suc at) xs) ≡ row ∷ []) × (take at (take (suc at) xs) ≡ take at xs)
front row [] at below e = absurd (omega arith)
front row (x ∷ xs) zero below e = (refl, ap (λ y. y ∷ []) e, refl)
front row (x ∷ xs) (suc at) below e = let f = front row xs at (omega arith) e in (ap suc f.0, f.1, ap (λ ys. x ∷ ys) f.2)

-- the front turned by one, and what comes after it
pub turned : (row : ℕ) (xs : List ℕ) (at : ℕ) → (at < length xs) × (get_or xs at 0 ≡ row) → length (filter (nat_eq row) xs) ≡ 1 → (now : List ℕ) → now ≡ drop (length (take (at + 1) xs) - 1) (take (at + 1) xs) ++ take (length (take (at + 1) xs) - 1) (take (at + 1) xs) → now ++ drop (at + 1) xs ≡ row ∷ without row xs
turned row xs at found one now e = let f = front row xs at found.0 found.1 in let n : length (take (at + 1) xs) - 1 ≡ at = rw (add-one, f.0) (omega arith) in
    rw (e, n, add-one, f.1, f.2) (ap (λ ys. row ∷ ys) (sym (without_at row xs at found.0 found.1 one)))

-- where the row was found
pub found_at : (row at : ℕ) (xs : List ℕ) → Some at ≡ cond (ltb (position_or_len (nat_eq row) xs) (length xs)) (Some (position_or_len (nat_eq row) xs)) None → (at < length xs) × (get_or xs at 0 ≡ row)
found_at row at xs h = by (ltb (position_or_len (nat_eq row) xs) (length xs)) refl h
  where
    by : (b : Bool) → ltb (position_or_len (nat_eq row) xs) (length xs) ≡ b → Some at ≡ cond b (Some (position_or_len (nat_eq row) xs)) None → (at < length xs) × (get_or xs at 0 ≡ row)
    by true s e = let below : position_or_len (nat_eq row) xs < length xs = ltb-true _ _ s in let is : at ≡ position_or_len (nat_eq row) xs = cc in
        rw is (below, sym (eqb-true row _ (passes_at_first (nat_eq row) xs 0 below)))
    by false s e = cc

none_pass : (row : ℕ) (xs : List ℕ) → length xs ≤ prefix_len (λ x. not (nat_eq row x)) xs → length (filter (nat_eq row) xs) ≡ 0
none_pass row [] h = refl
none_pass row (x ∷ xs) h = (elim (nat_eq row x) as (λ a. suc (length xs) ≤ cond (not a) (1 + prefix_len (λ x. not (nat_eq row x)) xs) 0 → length (cond a (x ∷ filter (nat_eq row) xs) (filter (nat_eq row) xs)) ≡ 0) [
  | true ↦ λ s. absurd (omega arith)
  | false ↦ λ s. none_pass row xs (omega arith)
]) h

-- it was not found
pub found_none : (row : ℕ) (xs : List ℕ) → None ≡ cond (ltb (position_or_len (nat_eq row) xs) (length xs)) (Some (position_or_len (nat_eq row) xs)) None → length (filter (nat_eq row) xs) ≡ 0
found_none row xs h = by (ltb (position_or_len (nat_eq row) xs) (length xs)) refl h
  where
    by : (b : Bool) → ltb (position_or_len (nat_eq row) xs) (length xs) ≡ b → None ≡ cond b (Some (position_or_len (nat_eq row) xs)) None → length (filter (nat_eq row) xs) ≡ 0
    by true s e = cc
    by false s e = none_pass row xs (ltb-false _ _ s)

last_cons : (x : ℕ) (ys : List ℕ) → last_of (x ∷ ys) ≡ option_or (last_of ys) (Some x)
last_cons x [] = refl
last_cons x (y ∷ ys) = let e : suc (length ys) - 1 ≡ length ys = omega arith in let f : suc (suc (length ys)) - 1 ≡ suc (length ys) = omega arith in rw (f, e, slice_get-get_or (y ∷ ys) (length ys) 0 (omega arith)) refl

-- the first that passes from the end on is the last of those that pass
pub find-reverse : (p : ℕ → Bool) (xs : List ℕ) → find p (reverse xs) ≡ last_of (filter p xs)
find-reverse p [] = refl
find-reverse p (x ∷ xs) = ap (find p) (reverse-append (x ∷ []) xs) ∙ find-append p (reverse xs) (x ∷ []) ∙ ap (λ o. option_or o (find p (x ∷ []))) (find-reverse p xs) ∙ last (p x) refl
  where
    last : (a : Bool) → p x ≡ a → option_or (last_of (filter p xs)) (find p (x ∷ [])) ≡ last_of (cond a (x ∷ filter p xs) (filter p xs))
    last true s = rw s (sym (last_cons x (filter p xs)))
    last false s = rw s (none (last_of (filter p xs)))
      where
        none : (o : Option ℕ) → option_or o None ≡ o
        none None = refl
        none (Some y) = refl
