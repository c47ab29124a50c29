-- Items that the program stores, and what they stand for.
use Rattle.std.proofs.Common.{◌≡◌, ℕ, zero, suc, List, [], ◌∷◌, length, get_or, set, map, refl, sym, ap, ◌∙◌}
use mathlib.Core.Option.{some, some-injective, some-ne-none}
use lib.ListN.{get_elem?}

pub map_set : {A B : Type 0} (f : A → B) (l : List A) (i : ℕ) (x : A) → map f (set l i x) ≡ set (map f l) i (f x)
map_set f [] i x = refl
map_set f (y ∷ ys) zero x = refl
map_set f (y ∷ ys) (suc i) x = ap (λ l. f y ∷ l) (map_set f ys i x)

pub get_map : {A B : Type 0} (f : A → B) (l : List A) (i : ℕ) (x : A) (d : B) → get_elem? l i ≡ some x → get_or (map f l) i d ≡ f x
get_map f [] i x d e = absurd (some-ne-none x (sym e))
get_map f (y ∷ ys) zero x d e = ap f (some-injective y x e)
get_map f (y ∷ ys) (suc i) x d e = get_map f ys i x d e

pub map_length : {A B : Type 0} (f : A → B) (l : List A) → length (map f l) ≡ length l
map_length f [] = refl
map_length f (x ∷ xs) = ap suc (map_length f xs)

-- an item was changed, and with it what it stands for
pub set_shown : {A B : Type 0} (f : A → B) (l : List A) (i : ℕ) (x x' : A) (d : B) (g : B → B) → get_elem? l i ≡ some x → f x' ≡ g (f x) → map f (set l i x') ≡ set (map f l) i (g (get_or (map f l) i d))
set_shown f l i x x' d g at is = map_set f l i x' ∙ ap (set (map f l) i) (is ∙ ap g (sym (get_map f l i x d at)))

-- an item was changed, and stands for the same
pub same_shown : {A B : Type 0} (f : A → B) (l : List A) (i : ℕ) (x x' : A) → get_elem? l i ≡ some x → f x' ≡ f x → map f (set l i x') ≡ map f l
same_shown f [] i x x' at is = refl
same_shown f (y ∷ ys) zero x x' at is = ap (λ z. z ∷ map f ys) (is ∙ ap f (sym (some-injective y x at)))
same_shown f (y ∷ ys) (suc i) x x' at is = ap (λ l. f y ∷ l) (same_shown f ys i x x' at is)
