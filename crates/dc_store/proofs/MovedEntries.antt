-- An entry put in before another goes, or after: the list is the same.
use Rattle.std.proofs.Common.{◌≡◌, ℕ, List, true, false, not, cond, Some, None, IsTrue, refl, ap, sym, ◌∙◌}
use Rattle.std.specs.FinMap.Entries.{put, is_sorted, is_sorted-put, is_sorted-where_key, find-put}
use Rattle.std.specs.FinMap.Entries.{find as lookup}
use Rattle.std.specs.declared.cmp.Ordering.{Ordering}
use Rattle.std.specs.declared.cmp.Ordering.TheVariants.{Less, Equal, Greater}
use Rattle.std.specs.Ordering.{is_eq, eq_by_cmp, ordering_reverse}
use Rattle.dc_plain.specs.Trees.{Spot, spot_cmp, without_spot}
use Rattle.dc_store.proofs.Spots.{spots_total, same_spot, same_spots, lookup-take}
use Rattle.dc_store.proofs.Decides.{to_test}

turned : (o : Ordering) → is_eq (ordering_reverse o) ≡ is_eq o
turned Less = refl
turned Equal = refl
turned Greater = refl

ties_both_ways : (x y : Spot) → eq_by_cmp spot_cmp x y ≡ eq_by_cmp spot_cmp y x
ties_both_ways x y = ap is_eq (spots_total.antisymm x y) ∙ turned (spot_cmp y x)

module _ (a b : Spot) (n : ℕ) (es : List (Spot × ℕ)) (sorted : IsTrue (is_sorted spot_cmp es)) (apart : eq_by_cmp spot_cmp a b ≡ false) where
  -- what is left if the old entry goes after the new one was put in
  found_after : (q : Spot) → lookup spot_cmp q (without_spot a (put spot_cmp b n es)) ≡ cond (not (eq_by_cmp spot_cmp a q)) (cond (eq_by_cmp spot_cmp q b) (Some n) (lookup spot_cmp q es)) None
  found_after q = lookup-take spot_cmp spots_total a q (put spot_cmp b n es) ∙ ap (λ o. cond (not (eq_by_cmp spot_cmp a q)) o None) (find-put spot_cmp spots_total q b n es)

  found_before : (rest : List (Spot × ℕ)) (q : Spot) → lookup spot_cmp q (put spot_cmp b n (without_spot a rest)) ≡ cond (eq_by_cmp spot_cmp q b) (Some n) (cond (not (eq_by_cmp spot_cmp a q)) (lookup spot_cmp q rest) None)
  found_before rest q = find-put spot_cmp spots_total q b n (without_spot a rest) ∙ ap (cond (eq_by_cmp spot_cmp q b) (Some n)) (lookup-take spot_cmp spots_total a q rest)

  -- a key that ties with the new one isn't the old one
  not_old : (q : Spot) → eq_by_cmp spot_cmp q b ≡ true → eq_by_cmp spot_cmp a q ≡ false
  not_old q e = ap (eq_by_cmp spot_cmp a) (same_spot q b e) ∙ apart

  alike : (rest : List (Spot × ℕ)) (q : Spot) → (eq_by_cmp spot_cmp q b ≡ false → lookup spot_cmp q rest ≡ lookup spot_cmp q es)
      → lookup spot_cmp q (without_spot a (put spot_cmp b n es)) ≡ lookup spot_cmp q (put spot_cmp b n (without_spot a rest))
  alike rest q same =
      found_after q
      ∙ elim (eq_by_cmp spot_cmp q b) as (λ t. eq_by_cmp spot_cmp q b ≡ t → cond (not (eq_by_cmp spot_cmp a q)) (cond t (Some n) (lookup spot_cmp q es)) None
      ≡ cond t (Some n) (cond (not (eq_by_cmp spot_cmp a q)) (lookup spot_cmp q rest) None)) [
        | true ↦ λ e. ap (λ t. cond (not t) (Some n) None) (not_old q e)
        | false ↦ λ e. ap (λ o. cond (not (eq_by_cmp spot_cmp a q)) o None) (sym (same e))
      ] refl
      ∙ sym (found_before rest q)

  order_after : IsTrue (is_sorted spot_cmp es) → (rest : List (Spot × ℕ)) → IsTrue (is_sorted spot_cmp rest) → ((q : Spot) → eq_by_cmp spot_cmp q b ≡ false → lookup spot_cmp q rest ≡ lookup spot_cmp q es)
      → without_spot a (put spot_cmp b n es) ≡ put spot_cmp b n (without_spot a rest)
  order_after s rest r same = same_spots (without_spot a (put spot_cmp b n es)) (put spot_cmp b n (without_spot a rest))
      (is_sorted-where_key spot_cmp _ (put spot_cmp b n es) (is_sorted-put spot_cmp spots_total b n es (to_test _ s)))
      (is_sorted-put spot_cmp spots_total b n (without_spot a rest) (is_sorted-where_key spot_cmp _ rest (to_test _ r)))
      (λ q. alike rest q (same q))

  pub moved_alone : without_spot a (put spot_cmp b n es) ≡ put spot_cmp b n (without_spot a es)
  moved_alone = order_after sorted es sorted (λ q e. refl)

  pub moved_over : IsTrue (is_sorted spot_cmp (without_spot b es)) → without_spot a (put spot_cmp b n es) ≡ put spot_cmp b n (without_spot a (without_spot b es))
  moved_over r = order_after sorted (without_spot b es) r
      (λ q e. lookup-take spot_cmp spots_total b q es ∙ ap (λ t. cond (not t) (lookup spot_cmp q es) None) (ties_both_ways b q ∙ e))
