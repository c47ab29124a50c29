-- What the rows of the cache `lru` and the pins are after each change.
use Rattle.std.proofs.Common.{◌≡◌, ℕ, ◌-◌, ◌≤◌, true, false, cond, not, ◌||◌, List, [], ◌∷◌, length, take_all, Some, None, refl, ap, sym, ◌∙◌, nat_eq}
use Rattle.std.specs.List.{IsDistinct, AllByRecursion}
use Rattle.std.specs.Map.{keys_of, lookup, lookup_entry, remove_entry}
use Rattle.std.specs.Ordering.{nat_cmp}
use Rattle.std.specs.Cmp.{nat_cmp_total, nat_eq_equiv, unsigned_tied}
use Rattle.std.specs.FinMap as map
use Rattle.std.specs.FinMap.{find, same_map, nat_cmp-IsAntisymmetric, get-from_entries, get-insert, get-remove}
use Rattle.std.proofs.lemmas.Bool.{eqb-true}
use Rattle.std.proofs.lemmas.Map.Keys.{IsDistinct-head, IsDistinct-tail}
use Rattle.lru.specs.LruCache.{LruCache, promoted, put_entries}
use Rattle.dc_shrink.specs.Listings.{is_in, without}
use Rattle.dc_shrink.proofs.Lists.{without_absent}

absent_all : (row : ℕ) (xs : List ℕ) → AllByRecursion (λ y. nat_eq row y ≡ false) xs → is_in xs row ≡ false
absent_all row [] h = refl
absent_all row (x ∷ xs) h = rw h.0 (absent_all row xs h.1)

module _ {X : Type 0} where
  pub keys-remove_entry : (row : ℕ) (es : List (ℕ × X)) → IsDistinct nat_eq (keys_of es) → keys_of (remove_entry (nat_eq row) es) ≡ without row (keys_of es)
  keys-remove_entry row [] d = refl
  keys-remove_entry row (e ∷ es) d = (elim (nat_eq row e.0) as (λ a. nat_eq row e.0 ≡ a → keys_of (cond a es (e ∷ remove_entry (nat_eq row) es)) ≡ cond (not a) (e.0 ∷ without row (keys_of es)) (without row (keys_of es))) [
    | true ↦ λ s. let same : row ≡ e.0 = eqb-true row e.0 s in let head : AllByRecursion (λ y. nat_eq row y ≡ false) (keys_of es) = rw same (IsDistinct-head nat_eq e.0 (keys_of es) d) in sym (without_absent row (keys_of es) (absent_all row (keys_of es) head))
    | false ↦ λ s. ap (λ r. e.0 ∷ r) (keys-remove_entry row es (IsDistinct-tail nat_eq e.0 (keys_of es) d))
  ]) refl

  pub lookup_entry_absent : (row : ℕ) (es : List (ℕ × X)) → is_in (keys_of es) row ≡ false → lookup_entry (nat_eq row) es ≡ None
  lookup_entry_absent row [] h = refl
  lookup_entry_absent row (e ∷ es) h = (elim (nat_eq row e.0) as (λ a. (a || is_in (keys_of es) row) ≡ false → cond a (Some e) (lookup_entry (nat_eq row) es) ≡ None) [
    | true ↦ λ s. cc
    | false ↦ λ s. lookup_entry_absent row es s
  ]) h

  lookup_entry_there : (row : ℕ) (es : List (ℕ × X)) → is_in (keys_of es) row ≡ true → (x : X) × (lookup_entry (nat_eq row) es ≡ Some (row, x))
  lookup_entry_there row [] h = cc
  lookup_entry_there row (e ∷ es) h = (elim (nat_eq row e.0) as (λ a. nat_eq row e.0 ≡ a → (a || is_in (keys_of es) row) ≡ true → (x : X) × (cond a (Some e) (lookup_entry (nat_eq row) es) ≡ Some (row, x))) [
    | true ↦ λ s t. (e.1, ap (λ k. Some (k, e.1)) (sym (eqb-true row e.0 s)))
    | false ↦ λ s t. lookup_entry_there row es t
  ]) refl h

  pub keys-put_again : (c : LruCache ℕ X) (row : ℕ) (x : X) → IsDistinct nat_eq (keys_of c.entries) → is_in (keys_of c.entries) row ≡ true → keys_of (put_entries nat_eq c row x) ≡ row ∷ without row (keys_of c.entries)
  keys-put_again c row x d h = let at = lookup_entry_there row c.entries h in rw at.1 (ap (λ r. row ∷ r) (keys-remove_entry row c.entries d))

  pub keys-promoted : (row : ℕ) (es : List (ℕ × X)) → IsDistinct nat_eq (keys_of es) → is_in (keys_of es) row ≡ true → keys_of (promoted (nat_eq row) es) ≡ row ∷ without row (keys_of es)
  keys-promoted row es d h = let at = lookup_entry_there row es h in rw at.1 (ap (λ r. row ∷ r) (keys-remove_entry row es d))

  pub keys-put : (c : LruCache ℕ X) (row : ℕ) (x : X) → is_in (keys_of c.entries) row ≡ false → length c.entries ≤ c.cap - 1 → keys_of (put_entries nat_eq c row x) ≡ row ∷ keys_of c.entries
  keys-put c row x h fits = let none = lookup_entry_absent row c.entries h in rw none (ap (λ es. row ∷ keys_of es) (take_all (c.cap - 1) c.entries fits))

module _ {X : Type 0} where
  find_lookup : (es : List (ℕ × X)) (q : ℕ) → find nat_cmp q es ≡ lookup (nat_eq q) es
  find_lookup [] q = refl
  find_lookup (e ∷ es) q = ap (λ b. cond b (Some e.1) (find nat_cmp q es)) (unsigned_tied q e.0) ∙ ap (λ o. cond (nat_eq q e.0) (Some e.1) o) (find_lookup es q)

  pub get_entries : (es : List (ℕ × X)) (q : ℕ) → map.get (map.from_entries {R = nat_cmp} es) q ≡ lookup (nat_eq q) es
  get_entries es q = get-from_entries nat_cmp_total es q ∙ find_lookup es q

  pub get_inserted : (m : map.FinMap nat_cmp X) (row : ℕ) (v : X) (q : ℕ) → map.get (map.insert m row v) q ≡ cond (nat_eq row q) (Some v) (map.get m q)
  get_inserted m row v q = get-insert nat_cmp_total m row v q ∙ ap (λ b. cond b (Some v) (map.get m q)) (unsigned_tied q row ∙ nat_eq_equiv.symm q row)

  pub get_removed : (m : map.FinMap nat_cmp X) (row q : ℕ) → map.get (map.remove m row) q ≡ cond (nat_eq row q) None (map.get m q)
  get_removed m row q = get-remove nat_cmp_total m row q ∙ ap (λ b. cond b None (map.get m q)) (unsigned_tied q row ∙ nat_eq_equiv.symm q row)

  pub entries_inserted : (es fs : List (ℕ × X)) (row : ℕ) (v : X) → ((q : ℕ) → lookup (nat_eq q) fs ≡ cond (nat_eq row q) (Some v) (lookup (nat_eq q) es)) → map.from_entries {R = nat_cmp} fs ≡ map.insert (map.from_entries es) row v
  entries_inserted es fs row v h = same_map nat_cmp_total nat_cmp-IsAntisymmetric _ _ (λ q. get_entries fs q ∙ h q ∙ ap (λ o. cond (nat_eq row q) (Some v) o) (sym (get_entries es q)) ∙ sym (get_inserted (map.from_entries es) row v q))

  pub entries_removed : (es fs : List (ℕ × X)) (row : ℕ) → ((q : ℕ) → lookup (nat_eq q) fs ≡ cond (nat_eq row q) None (lookup (nat_eq q) es)) → map.from_entries {R = nat_cmp} fs ≡ map.remove (map.from_entries es) row
  entries_removed es fs row h = same_map nat_cmp_total nat_cmp-IsAntisymmetric _ _ (λ q. get_entries fs q ∙ h q ∙ ap (λ o. cond (nat_eq row q) None o) (sym (get_entries es q)) ∙ sym (get_removed (map.from_entries es) row q))
