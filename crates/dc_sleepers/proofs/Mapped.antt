-- A list mapped in place, one element after the other.
use Rattle.std.proofs.Common.{◌≡◌, ◌≤◌, ◌++◌, ℕ, List, length, map, take, drop, ◌∙◌}
use Rattle.std.proofs.lemmas.List.{take_all, drop_all, append-nil}

pub map_all : {X : Type 0} (f : X → X) (xs ys : List X) (i : ℕ) → length xs ≤ i → ys ≡ map f (take i xs) ++ drop i xs → ys ≡ map f xs
map_all f xs ys i past e = e ∙ rw (take_all, drop_all) (append-nil (map f xs))

-- written back over as many
pub refilled : {X : Type 0} (n : ℕ) (ws xs : List X) → length xs ≤ length ws → length ws ≤ n → take n (ws ++ drop (length ws) xs) ≡ ws
refilled n ws xs long short = rw (drop_all, append-nil) (take_all n ws short)
