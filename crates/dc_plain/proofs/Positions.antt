-- Where a new key goes among entries in order.
use Rattle.std.proofs.Common.{◌≡◌, ℕ, zero, suc, ◌+◌, ◌≤◌, ◌<◌, ◌&&◌, List, [], ◌∷◌, ◌++◌, T, take, drop, length, map, Bool, true, false, cond, Some, None, is_some, get_or, set, refl, ap, sym, ◌∙◌, arith, add-one, insert}
use Rattle.std.proofs.lemmas.List.{map-append, take-map, drop-map, length-map}
use Rattle.std.specs.declared.cmp.Ordering.{Ordering}
use Rattle.std.specs.declared.cmp.Ordering.TheVariants.{Less, Equal, Greater}
use Rattle.std.specs.Ordering.{is_gt, is_eq}
use Rattle.std.specs.FinMap.Entries.{put, by_order, below_all, is_sorted, length-put}
use Rattle.std.specs.Cmp.{IsTotalOrder}
use Rattle.std.specs.FinMap.Entries.{find as lookup}
use Rattle.dc_plain.specs.Plain.{position_by}

pub position_by-le : {K X : Type 0} (against : K → Ordering) (es : List (K × X)) → position_by against es ≤ length es
position_by-le against [] = omega arith
position_by-le against (e ∷ es) =
    let rest = position_by-le against es in
    elim (is_gt (against e.0)) as (λ t. cond t (position_by against es + 1) 0 ≤ length (e ∷ es)) [ true ↦ omega arith | false ↦ omega arith ]

-- after the head
insert_later : {X : Type 0} (x : X) (xs : List X) (i : ℕ) (y : X) → insert (x ∷ xs) (i + 1) y ≡ x ∷ insert xs i y
insert_later x xs i y = rw add-one refl

-- a new key goes to its place
pub put_new : {K X : Type 0} (R : K → K → Ordering) (k : K) (v : X) (es : List (K × X)) → lookup R k es ≡ None → put R k v es ≡ insert es (position_by (R k) es) (k, v)
put_new R k v [] none = refl
put_new R k v (e ∷ es) none =
    elim (R k e.0) as (λ o. cond (is_eq o) (Some e.1) (lookup R k es) ≡ None → by_order o ((k, v) ∷ e ∷ es) ((e.0, v) ∷ es) (e ∷ put R k v es)
    ≡ insert (e ∷ es) (cond (is_gt o) (position_by (R k) es + 1) 0) (k, v)) [
      | Less ↦ λ rest. refl
      | Equal ↦ λ rest. cc
      | Greater ↦ λ rest. ap (λ l. e ∷ l) (put_new R k v es rest) ∙ sym (insert_later e es (position_by (R k) es) (k, v))
    ] none

pub map-insert : {X Y : Type 0} (f : X → Y) (xs : List X) (i : ℕ) (x : X) → map f (insert xs i x) ≡ insert (map f xs) i (f x)
map-insert f xs i x = map-append f (take i xs) (x ∷ drop i xs) ∙ (λ j. sym (take-map f i xs) j ++ f x ∷ sym (drop-map f i xs) j)

-- a new row at its place is the new key put in
pub put_row : {X K Y : Type 0} (R : K → K → Ordering) (shown : X → K × Y) (rows after : List X) (row : X) (at : ℕ) → at ≡ position_by (R (shown row).0) (map shown rows)
    → lookup R (shown row).0 (map shown rows) ≡ None → after ≡ insert rows at row → map shown after ≡ put R (shown row).0 (shown row).1 (map shown rows)
put_row R shown rows after row at is none made =
    ap (map shown) made ∙ map-insert shown rows at row ∙ ap (λ (i : ℕ). insert (map shown rows) i (shown row)) is
    ∙ sym (put_new R (shown row).0 (shown row).1 (map shown rows) none)

-- the place is within the rows
pub position_within : {X K Y : Type 0} (against : K → Ordering) (shown : X → K × Y) (rows : List X) (at : ℕ) → at ≡ position_by against (map shown rows) → at ≤ length rows
position_within against shown rows at is =
    let bound = position_by-le against (map shown rows) in
    omega (arith, length-map rows shown)

parts_of : (a b : Bool) → T (a && b) → T a × T b
parts_of true b h = (tt, h)
parts_of false b h = absurd h

module _ {K Y : Type 0} (R : K → K → Ordering) (total : IsTotalOrder R) (k : K) (old : Y) where
  -- a key that stands among keys in order isn't below the first
  not_below : (e : K × Y) (es : List (K × Y)) → T (is_sorted R (e ∷ es)) → R k e.0 ≡ Less → lookup R k (e ∷ es) ≡ Some old → ⊥
  not_below e es sorted less found =
      let counted : length (by_order Less ((k, old) ∷ e ∷ es) ((e.0, old) ∷ es) (e ∷ put R k old es)) ≡ length (e ∷ es) =
      ap (λ r. length (by_order r ((k, old) ∷ e ∷ es) ((e.0, old) ∷ es) (e ∷ put R k old es))) (sym less) ∙ length-put R total k old (e ∷ es) sorted
      ∙ ap (λ f. cond (is_some f) (length (e ∷ es)) (length (e ∷ es) + 1)) found in
      absurd (omega arith)

  -- the place of a key that stands there is within
  pub place_within : (es : List (K × Y)) → T (is_sorted R es) → lookup R k es ≡ Some old → position_by (R k) es < length es
  place_within [] sorted found = cc
  place_within (e ∷ es) sorted found =
      elim (R k e.0) as (λ o. R k e.0 ≡ o → cond (is_eq o) (Some e.1) (lookup R k es) ≡ Some old → cond (is_gt o) (position_by (R k) es + 1) 0 < length (e ∷ es)) [
        | Less ↦ λ is here. absurd (not_below e es sorted is found)
        | Equal ↦ λ is here. omega arith
        | Greater ↦ λ is here.
            let tail = parts_of (below_all R e.0 es) (is_sorted R es) sorted in
            let rest = place_within es tail.1 here in omega arith
      ] refl found

  -- another value at the place of a key is that value put in
  pub set_row : {X : Type 0} (shown : X → K × Y) (v : Y) (new other : X) (rows : List X) (at : ℕ) → T (is_sorted R (map shown rows)) → lookup R k (map shown rows) ≡ Some old → at ≡ position_by (R k) (map shown rows)
      → shown new ≡ ((shown (get_or rows at other)).0, v) → map shown (set rows at new) ≡ put R k v (map shown rows)
  set_row shown v new other [] at sorted found is same = cc
  set_row shown v new other (x ∷ xs) zero sorted found is same =
      elim (R k (shown x).0) as (λ o. R k (shown x).0 ≡ o → zero ≡ cond (is_gt o) (position_by (R k) (map shown xs) + 1) 0
      → shown new ∷ map shown xs ≡ by_order o ((k, v) ∷ shown x ∷ map shown xs) (((shown x).0, v) ∷ map shown xs) (shown x ∷ put R k v (map shown xs))) [
        | Less ↦ λ less at_is. absurd (not_below (shown x) (map shown xs) sorted less found)
        | Equal ↦ λ equal at_is. ap (λ (p : K × Y). p ∷ map shown xs) same
        | Greater ↦ λ greater at_is. absurd (omega arith)
      ] refl is
  set_row shown v new other (x ∷ xs) (suc at) sorted found is same =
      elim (R k (shown x).0) as (λ o. R k (shown x).0 ≡ o → cond (is_eq o) (Some (shown x).1) (lookup R k (map shown xs)) ≡ Some old → suc at ≡ cond (is_gt o) (position_by (R k) (map shown xs) + 1) 0
      → shown x ∷ map shown (set xs at new) ≡ by_order o ((k, v) ∷ shown x ∷ map shown xs) (((shown x).0, v) ∷ map shown xs) (shown x ∷ put R k v (map shown xs))) [
        | Less ↦ λ less here at_is. absurd (not_below (shown x) (map shown xs) sorted less found)
        | Equal ↦ λ equal here at_is. absurd (omega arith)
        | Greater ↦ λ greater here at_is.
            let tail = parts_of (below_all R (shown x).0 (map shown xs)) (is_sorted R (map shown xs)) sorted in
            ap (λ l. shown x ∷ l) (set_row shown v new other xs at tail.1 here (omega arith) same)
      ] refl found is
