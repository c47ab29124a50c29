-- What a taken entry changes, and what it leaves.
use Rattle.std.proofs.Common.{◌≡◌, ◌+◌, ◌≤◌, ◌&&◌, length, None, List, [], ◌∷◌, Bool, true, false, cond, not, Some, T, refl, ap, sym, ◌∙◌, arith, find, filter}
use Rattle.dc_plain.specs.Trees.{how_many}
use Rattle.std.specs.List.{AllByRecursion}
use Rattle.std.specs.Cmp.{IsTotalOrder, alike_right}
use Rattle.std.specs.declared.cmp.Ordering.{Ordering}
use Rattle.std.specs.declared.cmp.Ordering.TheVariants.{Less, Equal, Greater}
use Rattle.std.specs.Ordering.{is_eq, is_lt, eq_by_cmp}
use Rattle.std.specs.FinMap.Entries.{where_key, below_all, is_sorted, find-where_key}
use Rattle.std.specs.FinMap.Entries.{find as lookup}

pub All-filter : {X : Type 0} (P : X → Type 0) (p : X → Bool) (xs : List X) → AllByRecursion P xs → AllByRecursion P (filter p xs)
All-filter P p [] all = tt
All-filter P p (x ∷ xs) all =
    let rest = All-filter P p xs all.1 in
    elim (p x) as (λ b. AllByRecursion P (cond b (x ∷ filter p xs) (filter p xs))) [ true ↦ (all.0, rest) | false ↦ rest ]

and_parts : (a b : Bool) → T (a && b) → T a × T b
and_parts true b h = (tt, h)
and_parts false b h = absurd h

less_not : (o : Ordering) → T (is_lt o) → is_eq o ≡ false
less_not Less h = refl
less_not Equal h = absurd h
less_not Greater h = absurd h

equal_is : (o : Ordering) → is_eq o ≡ true → o ≡ Equal
equal_is Less e = cc
equal_is Equal e = refl
equal_is Greater e = cc

alike : {K : Type 0} (R : K → K → Ordering) → IsTotalOrder R → (k q x : K) → R q x ≡ Equal → not (eq_by_cmp R k x) ≡ not (eq_by_cmp R k q)
alike R total k q x tied = ap (λ o. not (is_eq o)) (sym (alike_right total q x k tied))

-- what ties with the key is gone, and all else is as it was
pub lookup-take : {K X : Type 0} (R : K → K → Ordering) → IsTotalOrder R → (k q : K) (es : List (K × X)) → lookup R q (where_key R (λ x. not (eq_by_cmp R k x)) es) ≡ cond (not (eq_by_cmp R k q)) (lookup R q es) None
lookup-take R total k q es = find-where_key R (λ x. not (eq_by_cmp R k x)) q (alike R total k q) es

pub none_passes : {X : Type 0} (p : X → Bool) (xs : List X) → how_many p xs ≡ 0 → AllByRecursion (λ x. p x ≡ false) xs
none_passes p [] e = tt
none_passes p (x ∷ xs) e =
    elim (p x) as (λ b. cond b 1 0 + how_many p xs ≡ 0 → (b ≡ false) × AllByRecursion (λ x. p x ≡ false) xs) [
      | true ↦ λ is. absurd (omega arith)
      | false ↦ λ is. (refl, none_passes p xs (omega arith))
    ] e

pub length_kept : {X : Type 0} (p : X → Bool) (xs : List X) → length (filter p xs) ≤ length xs
length_kept p [] = omega arith
length_kept p (x ∷ xs) = let rest = length_kept p xs in elim (p x) as (λ b. length (cond b (x ∷ filter p xs) (filter p xs)) ≤ length (x ∷ xs)) [ true ↦ omega arith | false ↦ omega arith ]

module _ {K X : Type 0} (R : K → K → Ordering) (total : IsTotalOrder R) (k : K) where
  -- keys above one that ties with k stay
  none_taken : (x : K) → R k x ≡ Equal → (es : List (K × X)) → T (below_all R x es) → where_key R (λ q. not (eq_by_cmp R k q)) es ≡ es
  none_taken x tied [] below = refl
  none_taken x tied (e ∷ es) below =
      let parts = and_parts (is_lt (R x e.0)) (below_all R x es) below in
      let kept : eq_by_cmp R k e.0 ≡ false = ap is_eq (total.congr k x e.0 tied) ∙ less_not (R x e.0) parts.0 in
      rw kept (ap (λ l. e ∷ l) (none_taken x tied es parts.1))

  pub count-take : (p : X → Bool) (v : X) (es : List (K × X)) → T (is_sorted R es) → lookup R k es ≡ Some v
      → how_many (λ e. p e.1) (where_key R (λ q. not (eq_by_cmp R k q)) es) + cond (p v) 1 0 ≡ how_many (λ e. p e.1) es
  count-take p v [] sorted found = cc
  count-take p v (e ∷ es) sorted found =
      let parts = and_parts (below_all R e.0 es) (is_sorted R es) sorted in
      elim (eq_by_cmp R k e.0) as (λ b. eq_by_cmp R k e.0 ≡ b → cond b (Some e.1) (lookup R k es) ≡ Some v
      → how_many (λ e. p e.1) (cond (not b) (e ∷ where_key R (λ q. not (eq_by_cmp R k q)) es) (where_key R (λ q. not (eq_by_cmp R k q)) es)) + cond (p v) 1 0 ≡ how_many (λ e. p e.1) (e ∷ es)) [
        | true ↦ λ is here.
            let same : e.1 ≡ v = cc in
            rw (none_taken e.0 (equal_is (R k e.0) is) es parts.0) (rw same (omega arith))
        | false ↦ λ is here. let rest = count-take p v es parts.1 here in omega arith
      ] refl found

  -- what doesn't pass isn't missed
  pub find-take : (p : X → Bool) (v : X) (es : List (K × X)) → T (is_sorted R es) → lookup R k es ≡ Some v → p v ≡ false
      → find (λ e. p e.1) (where_key R (λ q. not (eq_by_cmp R k q)) es) ≡ find (λ e. p e.1) es
  find-take p v [] sorted found fails = cc
  find-take p v (e ∷ es) sorted found fails =
      let parts = and_parts (below_all R e.0 es) (is_sorted R es) sorted in
      elim (eq_by_cmp R k e.0) as (λ b. eq_by_cmp R k e.0 ≡ b → cond b (Some e.1) (lookup R k es) ≡ Some v
      → find (λ e. p e.1) (cond (not b) (e ∷ where_key R (λ q. not (eq_by_cmp R k q)) es) (where_key R (λ q. not (eq_by_cmp R k q)) es)) ≡ find (λ e. p e.1) (e ∷ es)) [
        | true ↦ λ is here.
            let same : e.1 ≡ v = cc in
            rw (none_taken e.0 (equal_is (R k e.0) is) es parts.0) (rw same (rw fails refl))
        | false ↦ λ is here. ap (λ f. cond (p e.1) (Some e) f) (find-take p v es parts.1 here fails)
      ] refl found
