-- The items of lists.
use Rattle.std.proofs.Common.{◌≡◌, zero, suc, List, [], ◌∷◌, ◌++◌, map, inl, inr, arith, refl}
use Rattle.std.specs.Prelude.{Contains, ◌⊎◌}

abbrev pub Has : {A : Type 0} → List A → A → Type 0
Has [] x = ⊥
Has (y ∷ ys) x = (y ≡ x) ⊎ Has ys x

pub has : {A : Type 0} (xs : List A) (x : A) → Contains xs x → Has xs x
has [] x c = absurd (let within = c.1 in omega arith)
has (y ∷ ys) x (zero, within, is) = inl is
has (y ∷ ys) x (suc k, within, is) = inr (has ys x (k, omega arith, is))

pub has-map : {A B : Type 0} (f : A → B) (xs : List A) (y : B) → Has (map f xs) y → (x : A) × Has xs x × (f x ≡ y)
has-map f [] y h = absurd h
has-map f (x ∷ xs) y (inl is) = (x, inl refl, is)
has-map f (x ∷ xs) y (inr more) = let found = has-map f xs y more in (found.0, inr found.1, found.2)

pub has-append : {A : Type 0} (xs ys : List A) (x : A) → Has (xs ++ ys) x → Has xs x ⊎ Has ys x
has-append [] ys x h = inr h
has-append (y ∷ xs) ys x (inl is) = inl (inl is)
has-append (y ∷ xs) ys x (inr more) = elim (has-append xs ys x more) [ inl front ↦ inl (inr front) | inr back ↦ inr back ]
