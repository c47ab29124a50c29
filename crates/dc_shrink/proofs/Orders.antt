-- Each bucket keeps its rows in the order of the list.
use Rattle.std.proofs.Common.{◌≡◌, ℕ, ◌/◌, ◌<◌, Bool, true, false, cond, not, ◌&&◌, ◌⊎◌, List, [], ◌∷◌, length, map, slice_index_or, refl, ap, sym, subst, ◌∙◌, inl, inr, arith, nat_eq}
use Rattle.std.specs.List.{filter, range_with_len}
use Rattle.std.specs.Int.{div_ceil}
use Rattle.std.proofs.lemmas.Bool.{eqb-true, eq-eqb, ne_eqb, cases_eq}
use Rattle.std.proofs.lemmas.List.Elements.{filter_agree}
use Rattle.std.proofs.lemmas.List.{get_or-set_same, get_or-set_other, length-set}
use Rattle.std.proofs.lemmas.List.FromFn.{get_or-map-range_with_len, length-map-range_with_len}
use Rattle.std.proofs.lemmas.Bool.Decides.{nat_tests}
use Rattle.dc_shrink.specs.Listings.{is_in, without, in_bucket}
use Rattle.dc_shrink.specs.Orders.{IsOrder, AreOrders, promoted_in, four_rows}
use Rattle.dc_shrink.proofs.Lists.{filter_both, filter_turned, filter_but, without_absent, absent_of_count, is_in-without, is_in_first, count_first}

module _ {b : ℕ} {listed rows : List ℕ} (order : IsOrder b listed rows) (row : ℕ) where
  abbrev other : ℕ → Bool
  other r = not (nat_eq row r)

  pub order_dropped : IsOrder b (without row listed) rows
  order_dropped = record {
    once = order.once;
    as_listed = filter_agree (is_in (without row listed)) (λ r. is_in listed r && other r) (is_in-without row listed) rows
        ∙ filter_both (is_in listed) other rows
        ∙ ap (filter other) order.as_listed
        ∙ filter_turned other (in_bucket b) listed;
  }

  -- a list with the row first, seen by rows that lack it
  seen_without : filter (is_in (row ∷ without row listed)) (without row rows) ≡ filter (in_bucket b) (without row listed)
  seen_without = filter_but row (is_in (row ∷ without row listed)) (is_in listed) (is_in_first row listed) rows
      ∙ filter_turned (is_in listed) other rows
      ∙ ap (filter other) order.as_listed
      ∙ filter_turned other (in_bucket b) listed

  once_at : in_bucket b row ≡ true → (r : ℕ) (a : Bool) → nat_eq row r ≡ a → cond a 1 (length (filter (nat_eq r) rows)) ≡ cond (in_bucket b r) 1 0
  once_at here r true s = let e : row ≡ r = eqb-true row r s in rw (← e) (rw here refl)
  once_at here r false s = order.once r

  order_first : in_bucket b row ≡ true → IsOrder b (row ∷ without row listed) (row ∷ without row rows)
  order_first here = record {
    once = λ r. count_first row r rows ∙ once_at here r (nat_eq row r) refl;
    as_listed = rw (eq-eqb row row refl, here) (ap (λ xs. row ∷ xs) seen_without);
  }

  order_elsewhere : in_bucket b row ≡ false → IsOrder b (row ∷ without row listed) rows
  order_elsewhere apart = record {
    once = order.once;
    as_listed = let absent : without row rows ≡ rows = without_absent row rows (absent_of_count row rows (order.once row ∙ rw apart refl)) in
        ap (filter (is_in (row ∷ without row listed))) (sym absent) ∙ seen_without ∙ rw apart refl;
  }

module _ {n : ℕ} {listed : List ℕ} {buckets : List (List ℕ)} (all : AreOrders n listed buckets) (row : ℕ) where
  pub orders_dropped : AreOrders n (without row listed) buckets
  orders_dropped = record { enough = all.enough; each = λ b below. order_dropped (all.each b below) row }

  same_length : length (promoted_in buckets row) ≡ length buckets
  same_length = length-set buckets (row / 4) (row ∷ without row (slice_index_or buckets (row / 4) []))

  in_turn : (b : ℕ) → b < length buckets → (b ≡ row / 4) ⊎ (b ≡ row / 4 → ⊥) → IsOrder b (row ∷ without row listed) (slice_index_or (promoted_in buckets row) b [])
  in_turn b below (inl same) = let at : row / 4 < length buckets = omega arith in
      subst (λ (d : ℕ). IsOrder d (row ∷ without row listed) (slice_index_or (promoted_in buckets row) d [])) (sym same)
      (subst (IsOrder (row / 4) (row ∷ without row listed)) (sym (get_or-set_same buckets (row / 4) _ [] at)) (order_first (all.each (row / 4) at) row (eq-eqb (row / 4) (row / 4) refl)))
  in_turn b below (inr apart) =
      subst (IsOrder b (row ∷ without row listed)) (sym (get_or-set_other buckets (row / 4) b _ [] apart)) (order_elsewhere (all.each b below) row (ne_eqb (row / 4) b (λ e. apart (sym e))))

  pub orders_first : AreOrders n (row ∷ without row listed) (promoted_in buckets row)
  orders_first = record {
    enough = omega (arith, all.enough, same_length);
    each = λ b below. in_turn b (omega (arith, same_length)) (cases_eq b (row / 4));
  }

order_new : (b : ℕ) → IsOrder b [] (four_rows b)
order_new b = record { once = λ r. grind (arith, nat_tests); as_listed = refl }

pub orders_new : (n : ℕ) → AreOrders n [] (map four_rows (range_with_len 0 (div_ceil n 4)))
orders_new n = let len = length-map-range_with_len four_rows 0 (div_ceil n 4) in record {
  enough = rw len (omega arith);
  each = λ b below. subst (IsOrder b []) (sym (get_or-map-range_with_len four_rows 0 (div_ceil n 4) b b [] (omega arith) (omega arith))) (order_new b);
}
