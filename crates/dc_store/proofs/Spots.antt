-- Names in directories in order, and lists of entries that are in that order.
use Rattle.std.proofs.Common.{◌≡◌, ℕ, List, true, not, cond, None, T, refl, ap, sym}
use Rattle.std.proofs.lemmas.Cmp.{on_total, then_total}
use Rattle.std.proofs.lemmas.Map.Lookups.{exact_pairs}
use Rattle.std.specs.Cmp.{IsTotalOrder, nat_cmp_total, alike_right}
use Rattle.std.specs.Cmp.Lexicographic.{slice_cmp, nat_list_cmp_total}
use Rattle.std.specs.FinMap.{nat_cmp-IsAntisymmetric, slice_cmp-IsAntisymmetric}
use Rattle.std.specs.FinMap.Entries.{is_sorted, where_key, find-where_key, same_entries}
use Rattle.std.specs.FinMap.Entries.{find as lookup}
use Rattle.std.specs.Ordering.{nat_cmp, eq_by_cmp, is_eq}
use Rattle.std.specs.declared.cmp.Ordering.{Ordering}
use Rattle.std.specs.declared.cmp.Ordering.TheVariants.{Less, Equal, Greater}
use Rattle.dc_plain.specs.Trees.{Spot, spot_cmp}

pub spots_total : IsTotalOrder spot_cmp
spots_total = then_total (on_total (λ s. s.dir) nat_cmp_total) (on_total (λ s. s.name) nat_list_cmp_total)

exact : (a b : Spot) → spot_cmp a b ≡ Equal → a ≡ b
exact a b e = ap (λ (p : ℕ × List ℕ). record { dir = p.0; name = p.1 })
    (exact_pairs nat_cmp (slice_cmp nat_cmp) nat_cmp-IsAntisymmetric (slice_cmp-IsAntisymmetric nat_cmp-IsAntisymmetric) (a.dir, a.name) (b.dir, b.name) e)

equal_of : (o : Ordering) → is_eq o ≡ true → o ≡ Equal
equal_of Less e = cc
equal_of Equal e = refl
equal_of Greater e = cc

pub same_spot : (a b : Spot) → eq_by_cmp spot_cmp a b ≡ true → a ≡ b
same_spot a b e = exact a b (equal_of (spot_cmp a b) e)

-- lists in order are one if each name finds the same
pub same_spots : (es fs : List (Spot × ℕ)) → T (is_sorted spot_cmp es) → T (is_sorted spot_cmp fs) → ((q : Spot) → lookup spot_cmp q es ≡ lookup spot_cmp q fs) → es ≡ fs
same_spots = same_entries spot_cmp spots_total exact

-- what ties with a key that is taken out is gone, and all else is as it was
pub lookup-take : {K X : Type 0} (R : K → K → Ordering) → IsTotalOrder R → (k q : K) (es : List (K × X)) → lookup R q (where_key R (λ x. not (eq_by_cmp R k x)) es) ≡ cond (not (eq_by_cmp R k q)) (lookup R q es) None
lookup-take R total k q es = find-where_key R (λ x. not (eq_by_cmp R k x)) q (λ x tied. ap (λ o. not (is_eq o)) (sym (alike_right total q x k tied))) es
