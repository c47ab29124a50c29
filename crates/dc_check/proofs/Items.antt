-- The items of lists, and of what is made of each.
use Rattle.std.proofs.Common.{◌≡◌, zero, suc, List, [], ◌∷◌, map, ap, inl, inr, arith, refl}
use Rattle.std.specs.Prelude.{Contains, ◌⊎◌}

abbrev pub Has : {A : Type 0} → List A → A → Type 0
Has [] x = ⊥
Has (y ∷ ys) x = (y ≡ x) ⊎ Has ys x

pub has : {A : Type 0} (xs : List A) (x : A) → Contains xs x → Has xs x
has [] x c = absurd (let within = c.1 in omega arith)
has (y ∷ ys) x (zero, within, is) = inl is
has (y ∷ ys) x (suc k, within, is) = inr (has ys x (k, omega arith, is))

pub contains : {A : Type 0} (xs : List A) (x : A) → Has xs x → Contains xs x
contains [] x h = absurd h
contains (y ∷ ys) x (inl is) = (0, omega arith, is)
contains (y ∷ ys) x (inr more) = let c = contains ys x more in let within = c.1 in (suc c.0, omega arith, c.2)

pub has-map : {A B : Type 0} (f : A → B) (xs : List A) (y : B) → Has (map f xs) y → (x : A) × Has xs x × (f x ≡ y)
has-map f [] y h = absurd h
has-map f (x ∷ xs) y (inl is) = (x, inl refl, is)
has-map f (x ∷ xs) y (inr more) = let found = has-map f xs y more in (found.0, inr found.1, found.2)

pub map-has : {A B : Type 0} (f : A → B) (xs : List A) (x : A) → Has xs x → Has (map f xs) (f x)
map-has f [] x h = absurd h
map-has f (y ∷ ys) x (inl is) = inl (ap f is)
map-has f (y ∷ ys) x (inr more) = inr (map-has f ys x more)
