-- Where the first element that passes a test stands.
use Rattle.std.proofs.Common.{◌≡◌, ℕ, zero, suc, ◌+◌, ◌<◌, ◌≤◌, Bool, true, false, not, cond, List, [], ◌∷◌, length, map, get_or, Some, None, nat_lt, refl, ap, arith}
use Rattle.std.proofs.lemmas.List.{length-map}
use Rattle.std.specs.List.{position, prefix_len}
use Rattle.std.proofs.lemmas.Bool.{ltb-false, not-true}

module _ {X Y : Type 0} (f : X → Y) (p : Y → Bool) where
  prefix_len-map : (xs : List X) → prefix_len (λ y. not (p y)) (map f xs) ≡ prefix_len (λ x. not (p (f x))) xs
  prefix_len-map [] = refl
  prefix_len-map (x ∷ xs) = ap (λ n. cond (not (p (f x))) (1 + n) 0) (prefix_len-map xs)

  pub position-map : (xs : List X) → position p (map f xs) ≡ position (λ x. p (f x)) xs
  position-map xs = rw (prefix_len-map xs, length-map) refl

module _ {X : Type 0} (p : X → Bool) where
  passes : (xs : List X) → length xs ≤ prefix_len p xs → (i : ℕ) (d : X) → i < length xs → p (get_or xs i d) ≡ true
  passes [] h i d below = absurd (omega arith)
  passes (x ∷ xs) h zero d below = (elim (p x) as (λ a. p x ≡ a → suc (length xs) ≤ cond a (1 + prefix_len p xs) 0 → p x ≡ true) [
    | true ↦ λ s t. s
    | false ↦ λ s t. absurd (omega arith)
  ]) refl h
  passes (x ∷ xs) h (suc i) d below = (elim (p x) as (λ a. suc (length xs) ≤ cond a (1 + prefix_len p xs) 0 → p (get_or xs i d) ≡ true) [
    | true ↦ λ t. passes xs (omega arith) i d (omega arith)
    | false ↦ λ t. absurd (omega arith)
  ]) h

pub position_none : {X : Type 0} (p : X → Bool) (xs : List X) → position p xs ≡ None → (i : ℕ) (d : X) → i < length xs → p (get_or xs i d) ≡ false
position_none p xs h i d below = not-true (p (get_or xs i d)) (passes (λ x. not (p x)) xs (full (prefix_len (λ x. not (p x)) xs) (nat_lt (prefix_len (λ x. not (p x)) xs) (length xs)) refl h) i d below)
  where
    full : (n : ℕ) (b : Bool) → nat_lt n (length xs) ≡ b → cond b (Some n) None ≡ None → length xs ≤ n
    full n true s t = cc
    full n false s t = ltb-false n (length xs) s
