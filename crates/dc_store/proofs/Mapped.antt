-- Values under numbers, each as a function maps it: what a number finds, their order, and one more or less of them.
use Rattle.std.proofs.Common.{◌≡◌, ℕ, List, [], ◌∷◌, Bool, true, false, ◌&&◌, cond, map, Some, option_map, refl, ap}
use Rattle.std.specs.FinMap.Entries.{put, by_order, below_all, is_sorted, where_key}
use Rattle.std.specs.FinMap.Entries.{find as lookup}
use Rattle.std.specs.Ordering.{nat_cmp, eq_by_cmp, is_lt}
use Rattle.std.specs.declared.cmp.Ordering.TheVariants.{Less, Equal, Greater}

module _ {X Y : Type 0} (f : X → Y) where
  abbrev pub mapped : ℕ × X → ℕ × Y
  mapped e = (e.0, f e.1)

  pub found_map : (q : ℕ) (es : List (ℕ × X)) → lookup nat_cmp q (map mapped es) ≡ option_map f (lookup nat_cmp q es)
  found_map q [] = refl
  found_map q (e ∷ es) = elim (eq_by_cmp nat_cmp q e.0) as (λ b. cond b (Some (f e.1)) (lookup nat_cmp q (map mapped es)) ≡ option_map f (cond b (Some e.1) (lookup nat_cmp q es))) [ true ↦ refl | false ↦ found_map q es ]

  below_map : (n : ℕ) (es : List (ℕ × X)) → below_all nat_cmp n (map mapped es) ≡ below_all nat_cmp n es
  below_map n [] = refl
  below_map n (e ∷ es) = ap (λ b. is_lt (nat_cmp n e.0) && b) (below_map n es)

  pub sorted_map : (es : List (ℕ × X)) → is_sorted nat_cmp (map mapped es) ≡ is_sorted nat_cmp es
  sorted_map [] = refl
  sorted_map (e ∷ es) = λ i. below_map e.0 es i && sorted_map es i

  pub put_map : (n : ℕ) (x : X) (es : List (ℕ × X)) → map mapped (put nat_cmp n x es) ≡ put nat_cmp n (f x) (map mapped es)
  put_map n x [] = refl
  put_map n x (e ∷ es) = elim (nat_cmp n e.0) as (λ o. map mapped (by_order o ((n, x) ∷ e ∷ es) ((e.0, x) ∷ es) (e ∷ put nat_cmp n x es))
      ≡ by_order o ((n, f x) ∷ mapped e ∷ map mapped es) ((e.0, f x) ∷ map mapped es) (mapped e ∷ put nat_cmp n (f x) (map mapped es))) [
        | Less ↦ refl
        | Equal ↦ refl
        | Greater ↦ ap (λ l. mapped e ∷ l) (put_map n x es)
      ]

  pub where_map : (p : ℕ → Bool) (es : List (ℕ × X)) → map mapped (where_key nat_cmp p es) ≡ where_key nat_cmp p (map mapped es)
  where_map p [] = refl
  where_map p (e ∷ es) = elim (p e.0) as (λ b. map mapped (cond b (e ∷ where_key nat_cmp p es) (where_key nat_cmp p es)) ≡ cond b (mapped e ∷ where_key nat_cmp p (map mapped es)) (where_key nat_cmp p (map mapped es))) [
    | true ↦ ap (λ l. mapped e ∷ l) (where_map p es)
    | false ↦ where_map p es
  ]
