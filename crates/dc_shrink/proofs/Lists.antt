-- Lists of numbers without one of them.
use Rattle.std.proofs.Common.{◌≡◌, ℕ, Bool, true, false, cond, not, ◌&&◌, ◌||◌, List, [], ◌∷◌, length, refl, ap, sym, subst, ◌∙◌, arith, nat_eq}
use Rattle.std.specs.List.{filter, IsDistinct, AllByRecursion}
use Rattle.std.proofs.lemmas.Map.Keys.{IsDistinct-head, IsDistinct-tail, IsDistinct-cons}
use Rattle.std.proofs.lemmas.Map.Made.{is_member-filter}
use Rattle.std.proofs.lemmas.Bool.{eqb-true, eqb-false, eq-eqb, ne_eqb}
use Rattle.std.specs.Cmp.{nat_eq_equiv}
use Rattle.dc_shrink.specs.Listings.{is_in, without}

-- to filter by two tests
pub filter_both : {X : Type 0} (p q : X → Bool) (xs : List X) → filter (λ x. p x && q x) xs ≡ filter q (filter p xs)
filter_both p q [] = refl
filter_both p q (x ∷ xs) = let e = filter_both p q xs in elim (p x) as (λ a. cond (a && q x) (x ∷ filter (λ y. p y && q y) xs) (filter (λ y. p y && q y) xs) ≡ filter q (cond a (x ∷ filter p xs) (filter p xs))) [
  | true ↦ ap (λ r. cond (q x) (x ∷ r) r) e
  | false ↦ e
]

-- in either order
pub filter_turned : {X : Type 0} (p q : X → Bool) (xs : List X) → filter p (filter q xs) ≡ filter q (filter p xs)
filter_turned p q [] = refl
filter_turned p q (x ∷ xs) = let e = filter_turned p q xs in (elim (p x) as (λ a. (b : Bool) → p x ≡ a → q x ≡ b → filter p (cond b (x ∷ filter q xs) (filter q xs)) ≡ filter q (cond a (x ∷ filter p xs) (filter p xs))) [
  | true ↦ λ b. elim b as (λ b. p x ≡ true → q x ≡ b → filter p (cond b (x ∷ filter q xs) (filter q xs)) ≡ filter q (x ∷ filter p xs)) [
    | true ↦ λ s t. rw (s, t) (ap (λ r. x ∷ r) e)
    | false ↦ λ s t. rw t e
  ]
  | false ↦ λ b. elim b as (λ b. p x ≡ false → q x ≡ b → filter p (cond b (x ∷ filter q xs) (filter q xs)) ≡ filter q (filter p xs)) [
    | true ↦ λ s t. rw s e
    | false ↦ λ s t. e
  ]
]) (q x) refl refl

-- two tests that agree on all numbers but one
pub filter_but : (row : ℕ) (p q : ℕ → Bool) → ((r : ℕ) → nat_eq row r ≡ false → p r ≡ q r) → (xs : List ℕ) → filter p (without row xs) ≡ filter q (without row xs)
filter_but row p q h [] = refl
filter_but row p q h (x ∷ xs) = let e = filter_but row p q h xs in (elim (nat_eq row x) as (λ a. nat_eq row x ≡ a → filter p (cond (not a) (x ∷ without row xs) (without row xs)) ≡ filter q (cond (not a) (x ∷ without row xs) (without row xs))) [
  | true ↦ λ s. e
  | false ↦ λ s. rw (h x s) (ap (λ r. cond (q x) (x ∷ r) r) e)
]) refl

-- a number that isn't there
pub without_absent : (row : ℕ) (xs : List ℕ) → is_in xs row ≡ false → without row xs ≡ xs
without_absent row [] h = refl
without_absent row (x ∷ xs) h = (elim (nat_eq row x) as (λ a. (a || is_in xs row) ≡ false → cond (not a) (x ∷ without row xs) (without row xs) ≡ x ∷ xs) [
  | true ↦ λ s. cc
  | false ↦ λ s. ap (λ r. x ∷ r) (without_absent row xs s)
]) h

pub absent_of_count : (row : ℕ) (xs : List ℕ) → length (filter (nat_eq row) xs) ≡ 0 → is_in xs row ≡ false
absent_of_count row [] h = refl
absent_of_count row (x ∷ xs) h = (elim (nat_eq row x) as (λ a. length (cond a (x ∷ filter (nat_eq row) xs) (filter (nat_eq row) xs)) ≡ 0 → (a || is_in xs row) ≡ false) [
  | true ↦ λ s. absurd (omega arith)
  | false ↦ λ s. absent_of_count row xs s
]) h

pub is_in-without : (row : ℕ) (xs : List ℕ) (r : ℕ) → is_in (without row xs) r ≡ (is_in xs r && not (nat_eq row r))
is_in-without row xs r = is_member-filter nat_eq_equiv (λ x. not (nat_eq row x)) r (λ x e. ap (λ y. not (nat_eq row y)) (eqb-true r x e)) xs

and_true : (a : Bool) → (a && true) ≡ a
and_true true = refl
and_true false = refl

pub is_in_first : (row : ℕ) (xs : List ℕ) (r : ℕ) → nat_eq row r ≡ false → is_in (row ∷ without row xs) r ≡ is_in xs r
is_in_first row xs r apart = rw (nat_eq_equiv.symm r row ∙ apart) (is_in-without row xs r ∙ rw apart (and_true (is_in xs r)))

-- how often the number, and another one, stand there afterwards
none_left : (row : ℕ) (xs : List ℕ) → filter (nat_eq row) (without row xs) ≡ []
none_left row [] = refl
none_left row (x ∷ xs) = let e = none_left row xs in (elim (nat_eq row x) as (λ a. nat_eq row x ≡ a → filter (nat_eq row) (cond (not a) (x ∷ without row xs) (without row xs)) ≡ []) [
  | true ↦ λ s. e
  | false ↦ λ s. rw s e
]) refl

others_left : (row r : ℕ) → nat_eq row r ≡ false → (xs : List ℕ) → filter (nat_eq r) (without row xs) ≡ filter (nat_eq r) xs
others_left row r h [] = refl
others_left row r h (x ∷ xs) = let e = others_left row r h xs in (elim (nat_eq row x) as (λ a. nat_eq row x ≡ a → filter (nat_eq r) (cond (not a) (x ∷ without row xs) (without row xs)) ≡ filter (nat_eq r) (x ∷ xs)) [
  | true ↦ λ s. let ne : nat_eq r x ≡ false = ne_eqb r x (λ q. eqb-false row r h (eqb-true row x s ∙ sym q)) in rw ne e
  | false ↦ λ s. ap (λ ys. cond (nat_eq r x) (x ∷ ys) ys) e
]) refl

count_row : (row : ℕ) (xs : List ℕ) → length (filter (nat_eq row) (row ∷ without row xs)) ≡ 1
count_row row xs = rw (eq-eqb row row refl) (ap (λ ys. length (row ∷ ys)) (none_left row xs))

pub count_first : (row r : ℕ) (xs : List ℕ) → length (filter (nat_eq r) (row ∷ without row xs)) ≡ cond (nat_eq row r) 1 (length (filter (nat_eq r) xs))
count_first row r xs = (elim (nat_eq row r) as (λ a. nat_eq row r ≡ a → length (filter (nat_eq r) (row ∷ without row xs)) ≡ cond a 1 (length (filter (nat_eq r) xs))) [
  | true ↦ λ s. subst (λ (q : ℕ). length (filter (nat_eq q) (row ∷ without row xs)) ≡ 1) (eqb-true row r s) (count_row row xs)
  | false ↦ λ s. rw (nat_eq_equiv.symm r row ∙ s) (ap length (others_left row r s xs))
]) refl

all_kept : {X : Type 0} (P : X → Type 0) (p : X → Bool) (xs : List X) → AllByRecursion P xs → AllByRecursion P (filter p xs)
all_kept P p [] h = tt
all_kept P p (x ∷ xs) h = elim (p x) as (λ a. AllByRecursion P (cond a (x ∷ filter p xs) (filter p xs))) [
  | true ↦ (h.0, all_kept P p xs h.1)
  | false ↦ all_kept P p xs h.1
]

pub distinct_without : (row : ℕ) (xs : List ℕ) → IsDistinct nat_eq xs → IsDistinct nat_eq (without row xs)
distinct_without row [] h = h
distinct_without row (x ∷ xs) h = let rest = distinct_without row xs (IsDistinct-tail nat_eq x xs h) in elim (not (nat_eq row x)) as (λ a. IsDistinct nat_eq (cond a (x ∷ without row xs) (without row xs))) [
  | true ↦ IsDistinct-cons nat_eq x (without row xs) (all_kept (λ y. nat_eq x y ≡ false) (λ r. not (nat_eq row r)) xs (IsDistinct-head nat_eq x xs h)) rest
  | false ↦ rest
]

apart_all : (row : ℕ) (xs : List ℕ) → is_in xs row ≡ false → AllByRecursion (λ y. nat_eq row y ≡ false) xs
apart_all row [] h = tt
apart_all row (x ∷ xs) h = (elim (nat_eq row x) as (λ a. nat_eq row x ≡ a → (a || is_in xs row) ≡ false → (nat_eq row x ≡ false) × AllByRecursion (λ y. nat_eq row y ≡ false) xs) [
  | true ↦ λ t s. cc
  | false ↦ λ t s. (t, apart_all row xs s)
]) refl h

pub distinct_cons : (row : ℕ) (xs : List ℕ) → is_in xs row ≡ false → IsDistinct nat_eq xs → IsDistinct nat_eq (row ∷ xs)
distinct_cons row xs h d = IsDistinct-cons nat_eq row xs (apart_all row xs h) d
