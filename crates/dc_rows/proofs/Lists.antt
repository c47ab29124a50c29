-- Lists of rows without some of them, and the pins of the others.
use Rattle.std.proofs.Common.{◌≡◌, ◌≢◌, ℕ, zero, suc, ◌+◌, Bool, true, false, cond, not, ◌||◌, List, [], ◌∷◌, length, take, slice_get, Option, Some, None, is_some, refl, sym, ap, ◌∙◌, subst, arith, nat_eq, true≢false}
use Rattle.std.specs.List.{filter, IsDistinct, AllByRecursion}
use Rattle.std.specs.Option.{unwrap_or}
use Rattle.std.specs.Cmp.{nat_cmp_total, nat_eq_equiv, unsigned_tied}
use Rattle.std.specs.FinMap as finmap
use Rattle.std.specs.FinMap.{get-insert, get-remove}
use Rattle.std.proofs.lemmas.Bool.{eqb-true, eq-eqb, ne_eqb, or_parts, or_right}
use Rattle.std.proofs.lemmas.Option.{none-some, same_Some}
use Rattle.std.proofs.lemmas.Map.Keys.{IsDistinct-head, IsDistinct-tail}
use Rattle.dc_shrink.specs.Listings.{Listing, is_in, is_used, pins_of, without, dropped, with_pins}

pub in_first : (x : ℕ) (xs : List ℕ) → is_in (x ∷ xs) x ≡ true
in_first x xs = rw (eq-eqb x x refl) refl

pub in_later : (x : ℕ) (xs : List ℕ) (r : ℕ) → is_in xs r ≡ true → is_in (x ∷ xs) r ≡ true
in_later x xs r e = or_right (nat_eq r x) (is_in xs r) e

pub all_pass : (p : ℕ → Bool) (xs : List ℕ) → ((r : ℕ) → is_in xs r ≡ true → p r ≡ true) → filter p xs ≡ xs
all_pass p [] h = refl
all_pass p (x ∷ xs) h = rw (h x (in_first x xs)) (ap (λ r. x ∷ r) (all_pass p xs (λ r e. h r (in_later x xs r e))))

-- a test that is stricter than another
pub filter_then : (p q : ℕ → Bool) → ((r : ℕ) → q r ≡ true → p r ≡ true) → (xs : List ℕ) → filter q (filter p xs) ≡ filter q xs
filter_then p q stricter [] = refl
filter_then p q stricter (x ∷ xs) = let e = filter_then p q stricter xs in (elim (p x) as (λ a. p x ≡ a → filter q (cond a (x ∷ filter p xs) (filter p xs)) ≡ cond (q x) (x ∷ filter q xs) (filter q xs)) [
  | true ↦ λ s. ap (λ r. cond (q x) (x ∷ r) r) e
  | false ↦ λ s. (elim (q x) as (λ b. q x ≡ b → filter q (filter p xs) ≡ cond b (x ∷ filter q xs) (filter q xs)) [
    | true ↦ λ t. absurd (true≢false (sym (stricter x t) ∙ s))
    | false ↦ λ t. e
  ]) refl
]) refl

-- a test that the row fails
pub filter_past : (p : ℕ → Bool) (row : ℕ) → p row ≡ false → (xs : List ℕ) → filter p (without row xs) ≡ filter p xs
filter_past p row fails = filter_then (λ r. not (nat_eq row r)) p (λ r e. ap not (ne_eqb row r (λ same. true≢false (sym e ∙ (ap p (sym same) ∙ fails)))))

pub without_twice : (row : ℕ) (xs : List ℕ) → without row (without row xs) ≡ without row xs
without_twice row xs = filter_past (λ r. not (nat_eq row r)) row (ap not (eq-eqb row row refl)) xs

pub without_first : (row : ℕ) (xs : List ℕ) → without row (row ∷ xs) ≡ without row xs
without_first row xs = rw (eq-eqb row row refl) refl

-- a row that isn't there
pub without_absent : (row : ℕ) (xs : List ℕ) → is_in xs row ≡ false → without row xs ≡ xs
without_absent row xs out = all_pass (λ r. not (nat_eq row r)) xs (λ r e. ap not (ne_eqb row r (λ same. true≢false (sym e ∙ (ap (is_in xs) (sym same) ∙ out)))))

pub in_take : (n : ℕ) (xs : List ℕ) (r : ℕ) → is_in (take n xs) r ≡ true → is_in xs r ≡ true
in_take zero xs r e = absurd (true≢false (sym e))
in_take (suc n) [] r e = e
in_take (suc n) (x ∷ xs) r e = (elim (nat_eq r x) as (λ a. (a || is_in (take n xs) r) ≡ true → (a || is_in xs r) ≡ true) [
  | true ↦ λ s. refl
  | false ↦ λ s. in_take n xs r s
]) e

-- all pass but the row
pub all_but : (p : ℕ → Bool) (row : ℕ) → p row ≡ false → (xs : List ℕ) → ((r : ℕ) → is_in xs r ≡ true → r ≢ row → p r ≡ true) → filter p xs ≡ without row xs
all_but p row fails [] h = refl
all_but p row fails (x ∷ xs) h = let e = all_but p row fails xs (λ r i. h r (in_later x xs r i)) in (elim (nat_eq row x) as (λ a. nat_eq row x ≡ a → cond (p x) (x ∷ filter p xs) (filter p xs) ≡ cond (not a) (x ∷ without row xs) (without row xs)) [
  | true ↦ λ s. let same : p x ≡ false = subst (λ y. p y ≡ false) (eqb-true row x s) fails in rw same e
  | false ↦ λ s. let passes : p x ≡ true = h x (in_first x xs) (λ q. true≢false (sym (eq-eqb row x (sym q)) ∙ s)) in rw passes (ap (λ r. x ∷ r) e)
]) refl

apart_at : (x : ℕ) (xs : List ℕ) (at row : ℕ) → AllByRecursion (λ y. nat_eq x y ≡ false) xs → slice_get xs at ≡ Some row → nat_eq x row ≡ false
apart_at x [] at row h e = absurd (none-some row e)
apart_at x (y ∷ ys) zero row h e = subst (λ z. nat_eq x z ≡ false) (same_Some y row e) h.0
apart_at x (y ∷ ys) (suc at) row h e = apart_at x ys at row h.1 e

-- the last of rows that differ
pub without_last : (row : ℕ) (xs : List ℕ) (at : ℕ) → at + 1 ≡ length xs → slice_get xs at ≡ Some row → IsDistinct nat_eq xs → without row xs ≡ take at xs
without_last row [] at n e d = absurd (none-some row e)
without_last row (x ∷ []) zero n e d = rw (eq-eqb row x (sym (same_Some x row e))) refl
without_last row (x ∷ y ∷ ys) zero n e d = absurd (omega arith)
without_last row (x ∷ xs) (suc at) n e d = let apart : nat_eq row x ≡ false = nat_eq_equiv.symm row x ∙ apart_at x xs at row (IsDistinct-head nat_eq x xs d) e in
    rw apart (ap (λ r. x ∷ r) (without_last row xs at (omega arith) e (IsDistinct-tail nat_eq x xs d)))

pins_none : (o : Option ℕ) → is_some o ≡ false → unwrap_or o 0 ≡ 0
pins_none None e = refl
pins_none (Some n) e = absurd (true≢false e)

module _ (u : Listing) (row : ℕ) where
  pub pins_unused : is_used u row ≡ false → pins_of u row ≡ 0
  pins_unused e = pins_none (finmap.get u.pins row) (or_parts (is_in u.listed row) _ e).1

  pub pins_dropped : (r : ℕ) → r ≢ row → pins_of (dropped u row) r ≡ pins_of u r
  pins_dropped r ne = ap (λ o. unwrap_or o 0) (get-remove nat_cmp_total u.pins row r ∙ ap (λ b. cond b None (finmap.get u.pins r)) (unsigned_tied r row ∙ ne_eqb r row ne))

  pub pins_dropped_here : pins_of (dropped u row) row ≡ 0
  pins_dropped_here = ap (λ o. unwrap_or o 0) (get-remove nat_cmp_total u.pins row row ∙ ap (λ b. cond b None (finmap.get u.pins row)) (unsigned_tied row row ∙ eq-eqb row row refl))

  pub pins_with : (n r : ℕ) → r ≢ row → pins_of (with_pins u row n) r ≡ pins_of u r
  pins_with n r ne = ap (λ o. unwrap_or o 0) (get-insert nat_cmp_total u.pins row n r ∙ ap (λ b. cond b (Some n) (finmap.get u.pins r)) (unsigned_tied r row ∙ ne_eqb r row ne))

  pub pins_with_here : (n : ℕ) → pins_of (with_pins u row n) row ≡ n
  pins_with_here n = ap (λ o. unwrap_or o 0) (get-insert nat_cmp_total u.pins row n row ∙ ap (λ b. cond b (Some n) (finmap.get u.pins row)) (unsigned_tied row row ∙ eq-eqb row row refl))
