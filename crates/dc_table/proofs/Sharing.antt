-- A share is cut in two, two are put together, and what a pass with the whole knows of the others.
use Rattle.std.proofs.Common.{◌≡◌, ℕ, suc, ◌+◌, ◌-◌, ◌*◌, ◌^◌, ◌<◌, ◌≤◌, ◌≢◌, max, List, [], ◌∷◌, ◌++◌, set, sym, refl, ap, ap₂, ◌∙◌, subst, ⊎_elim, arith, pow_pos, pow-suc, mul_assoc, mul_comm, add-mul, mul-pos, pos_of_ne-zero, zero-mul}
use Rattle.std.proofs.lemmas.Nat.{pow-add}
use Rattle.std.proofs.Math.Nat.{le-max_left, le-max_right, max-le}
use mathlib.Core.Logic.{dite}
use mathlib.Core.Option.{some}
use native.Mathlib.Decide.{ℕ_discrete}
use lib.ListN.{get_elem?}
use Rattle.dc_table.specs.Shares.{Share, Known, Shares, Everyone, IsSpent, IsWhole, added, kept_half, new_half, both, spent, weight}
use Rattle.dc_table.proofs.Totals.{total_set, total_snoc, total_two, weight_doubles, total_doubles}
use Rattle.atomic_table.proofs.Lists.{at_set, at_snoc, set_else}

pub everyone_set : (passes : List Known) (id : ℕ) (k : Known) (So : Known → Type 0) → So k → Everyone passes So → Everyone (set passes id k) So
everyone_set passes id k So mine all j u e = ⊎_elim (λ (t : (j ≡ id) × (k ≡ u)). subst So t.1 mine) (λ (t : (j ≢ id) × (get_elem? passes j ≡ some u)). all j u t.1) (at_set passes id j k u e)

pub everyone_snoc : (passes : List Known) (k : Known) (So : Known → Type 0) → So k → Everyone passes So → Everyone (passes ++ k ∷ []) So
everyone_snoc passes k So mine all j u e = ⊎_elim (λ (h : get_elem? passes j ≡ some u). all j u h) (λ (h : k ≡ u). subst So h mine) (at_snoc passes k u j e)

abbrev Named : ℕ → ℕ → Known → Type 0
Named limit rows k = 0 < k.share.parts → (k.share.limit ≡ limit) × (k.share.rows ≡ rows)

abbrev Left : Known → Type 0
Left k = k.share.parts ≡ 0 → IsSpent k.view

nothing_left : IsSpent spent.view
nothing_left = record { own = refl; joined = refl; free = refl }

module _ {limit rows : ℕ} {passes : List Known} (S : Shares limit rows passes) (id : ℕ) (k : Known) (at : get_elem? passes id ≡ some k) where
  pub same_shares : 0 < k.share.parts → (l : Known) → l.share ≡ k.share → Shares limit rows (set passes id l)
  same_shares part l same = let mine : 0 < l.share.parts = subst (λ (s : Share). 0 < s.parts) (sym same) part in record {
    top = S.top;
    named = everyone_set passes id l (Named limit rows) (λ _. subst (λ (s : Share). (s.limit ≡ limit) × (s.rows ≡ rows)) (sym same) (S.named id k at part)) S.named;
    spent = everyone_set passes id l Left (λ z. absurd (omega arith)) S.spent;
    few = everyone_set passes id l (λ u. u.share.halvings ≤ S.top) (subst (λ (s : Share). s.halvings ≤ S.top) (sym same) (S.few id k at)) S.few;
    whole = let a = total_set (weight S.top) passes id k l at in let b : weight S.top l ≡ weight S.top k = ap (λ (s : Share). s.parts * 2 ^ (S.top - s.halvings)) same in let c = S.whole in omega arith;
  }

  half_weight : weight (suc S.top) (kept_half k) ≡ weight S.top k
  half_weight = let le = S.few id k at in let e : suc S.top - (k.share.halvings + 1) ≡ S.top - k.share.halvings = omega arith in ap (λ z. k.share.parts * 2 ^ z) e

  new_weight : weight (suc S.top) (new_half k) ≡ weight S.top k
  new_weight = let le = S.few id k at in let e : suc S.top - (k.share.halvings + 1) ≡ S.top - k.share.halvings = omega arith in ap (λ z. k.share.parts * 2 ^ z) e

  pub splits_shares : Shares limit rows (set passes id (kept_half k) ++ new_half k ∷ [])
  splits_shares = let vs : List Known = set passes id (kept_half k) in let le = S.few id k at in record {
    top = suc S.top;
    named = everyone_snoc vs (new_half k) (Named limit rows) (S.named id k at) (everyone_set passes id (kept_half k) (Named limit rows) (S.named id k at) S.named);
    spent = everyone_snoc vs (new_half k) Left (λ _. record { own = refl; joined = refl; free = refl }) (everyone_set passes id (kept_half k) Left (S.spent id k at) S.spent);
    few = everyone_snoc vs (new_half k) (λ u. u.share.halvings ≤ suc S.top) (omega arith) (everyone_set passes id (kept_half k) (λ u. u.share.halvings ≤ suc S.top) (omega arith) (λ j u there. let h = S.few j u there in omega arith));
    whole = let f : Known → ℕ = weight (suc S.top) in let a = total_snoc f vs (new_half k) in let b = total_set f passes id k (kept_half k) at in let c = total_doubles S.top passes S.few in let d = S.whole in
        let x = half_weight in let y = new_weight in let z = weight_doubles S.top k le in let p : 2 ^ suc S.top ≡ 2 * 2 ^ S.top = pow-suc 2 S.top ∙ mul_comm (2 ^ S.top) 2 in omega arith;
  }

  brought : (x a m t : ℕ) → a ≤ m → m ≤ t → (x * 2 ^ (m - a)) * 2 ^ (t - m) ≡ x * 2 ^ (t - a)
  brought x a m t le le' = let e : t - a ≡ (m - a) + (t - m) = omega arith in rw (e, pow-add 2 (m - a) (t - m)) (mul_assoc x (2 ^ (m - a)) (2 ^ (t - m)))

  joined_weight : (t : ℕ) (a b : Share) → a.halvings ≤ t → b.halvings ≤ t → (added a b).parts * 2 ^ (t - (added a b).halvings) ≡ a.parts * 2 ^ (t - a.halvings) + b.parts * 2 ^ (t - b.halvings)
  joined_weight t a b x y = let m : ℕ = max a.halvings b.halvings in let p : ℕ = a.parts * 2 ^ (m - a.halvings) in let q : ℕ = b.parts * 2 ^ (m - b.halvings) in
      add-mul p q (2 ^ (t - m)) ∙ ap₂ (λ u v. u + v) (brought a.parts a.halvings m t (le-max_left a.halvings b.halvings) (max-le x y)) (brought b.parts b.halvings m t (le-max_right a.halvings b.halvings) (max-le x y))

  spent_weight : (t : ℕ) → weight t spent ≡ 0
  spent_weight t = zero-mul (2 ^ (t - 0))

  pub joins_shares : (other : ℕ) (l : Known) → other ≢ id → get_elem? passes other ≡ some l → 0 < k.share.parts → Shares limit rows (set (set passes id (both k l)) other spent)
  joins_shares other l apart there part = let w : Known = both k l in let vs : List Known = set passes id w in let there' : get_elem? vs other ≡ some l = set_else passes id other w apart ∙ there in record {
    top = S.top;
    named = everyone_set vs other spent (Named limit rows) (λ l. absurd (omega arith)) (everyone_set passes id w (Named limit rows) (λ _. S.named id k at part) S.named);
    spent = everyone_set vs other spent Left (λ _. nothing_left) (everyone_set passes id w Left
        (λ z. let m : ℕ = max k.share.halvings l.share.halvings in let p : 0 < 2 ^ (m - k.share.halvings) = pow_pos (m - k.share.halvings) in let q : 0 < k.share.parts * 2 ^ (m - k.share.halvings) = mul-pos part p in absurd (omega arith)) S.spent);
    few = everyone_set vs other spent (λ u. u.share.halvings ≤ S.top) (omega arith) (everyone_set passes id w (λ u. u.share.halvings ≤ S.top) (max-le (S.few id k at) (S.few other l there)) S.few);
    whole = let f : Known → ℕ = weight S.top in let a = total_set f passes id k w at in let b = total_set f vs other l spent there' in let c = joined_weight S.top k.share l.share (S.few id k at) (S.few other l there) in let d = spent_weight S.top in let e = S.whole in omega arith;
  }

  -- a pass that has the whole knows that the others have no part of it
  module _ (whole : IsWhole k.share) where
    all_mine : weight S.top k ≡ 2 ^ S.top
    all_mine = let le = S.few id k at in let e : k.share.halvings + (S.top - k.share.halvings) ≡ S.top = omega arith in
        ap (λ z. z * 2 ^ (S.top - k.share.halvings)) whole ∙ (sym (pow-add 2 k.share.halvings (S.top - k.share.halvings)) ∙ ap (λ z. 2 ^ z) e)

    pub no_other : (j : ℕ) (u : Known) → j ≢ id → get_elem? passes j ≡ some u → u.share.parts ≡ 0
    no_other j u other there = let t = total_two (weight S.top) passes id j k u (λ e. other (sym e)) at there in let s = S.whole in let m = all_mine in let none_left : weight S.top u ≡ 0 = omega arith in
        let p : 0 < 2 ^ (S.top - u.share.halvings) = pow_pos (S.top - u.share.halvings) in
        dite (ℕ_discrete u.share.parts 0) (λ e. e) (λ ne. let q : 0 < u.share.parts * 2 ^ (S.top - u.share.halvings) = mul-pos (pos_of_ne-zero ne) p in absurd (omega arith))
