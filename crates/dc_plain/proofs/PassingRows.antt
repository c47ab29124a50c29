-- The rows that pass a test of what they stand for, and how many they are.
use Rattle.std.proofs.Common.{◌≡◌, ◌+◌, List, [], ◌∷◌, Bool, true, false, cond, map, filter, length, refl, ap, sym, ◌∙◌}
use Rattle.std.specs.Prelude.{count_by}
use Rattle.std.proofs.lemmas.List.Recursion.{is_sum_by}
use Rattle.std.proofs.lemmas.List.Sums.{length-filter}
use Rattle.dc_plain.specs.Trees.{how_many}

how_many-map : {X Y : Type 0} (p : Y → Bool) (f : X → Y) (xs : List X) → how_many p (map f xs) ≡ how_many (λ x. p (f x)) xs
how_many-map p f [] = refl
how_many-map p f (x ∷ xs) = ap (λ k. cond (p (f x)) 1 0 + k) (how_many-map p f xs)

counted : {X : Type 0} (p : X → Bool) (xs : List X) → count_by p xs ≡ how_many p xs
counted p xs = sym (is_sum_by (how_many p) (λ x. cond (p x) 1 0) refl (λ x xs. refl) xs)

pub counted_rows : {X Y : Type 0} (p : Y → Bool) (shown : X → Y) (rows : List X) → count_by (λ x. p (shown x)) rows ≡ how_many p (map shown rows)
counted_rows p shown rows = counted (λ x. p (shown x)) rows ∙ sym (how_many-map p shown rows)

pub passing_rows : {X Y : Type 0} (p : Y → Bool) (shown : X → Y) (rows : List X) → count_by (λ x. p (shown x)) rows ≡ length (filter p (map shown rows))
passing_rows p shown rows = counted_rows p shown rows ∙ sym (counted p (map shown rows)) ∙ sym (length-filter p (map shown rows))

pub filter-map : {X Y : Type 0} (p : Y → Bool) (shown : X → Y) (rows : List X) → map shown (filter (λ x. p (shown x)) rows) ≡ filter p (map shown rows)
filter-map p shown [] = refl
filter-map p shown (x ∷ xs) =
    let rest = filter-map p shown xs in
    elim (p (shown x)) as (λ b. map shown (cond b (x ∷ filter (λ x. p (shown x)) xs) (filter (λ x. p (shown x)) xs)) ≡ cond b (shown x ∷ filter p (map shown xs)) (filter p (map shown xs))) [
      | true ↦ ap (λ ys. shown x ∷ ys) rest
      | false ↦ rest
    ]
