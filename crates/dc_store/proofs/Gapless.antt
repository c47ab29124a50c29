-- A page tells each name that is due, or leaves it for a later page, and tells none again.
use Rattle.std.proofs.Common.{◌≡◌, ◌⊎◌, inl, inr, ℕ, zero, suc, ◌==◌, List, [], ◌∷◌, map, filter, take, Bool, true, false, cond, ◌&&◌, Option, Some, None, T, refl, ap, sym, subst, ◌∙◌, arith}
use Rattle.std.proofs.lemmas.Bool.Decides.{nat_tests}
use Rattle.std.specs.Cmp.{unsigned_tied}
use Rattle.std.specs.FinMap.Entries.{below_all, is_sorted, is_sorted-where_key, find-where_key}
use Rattle.std.specs.FinMap.Entries.{find as lookup}
use Rattle.std.specs.List.{AllByRecursion}
use Rattle.std.specs.Ordering.{nat_cmp, eq_by_cmp, is_eq, is_lt, ordering_then}
use Rattle.std.specs.declared.cmp.Ordering.{Ordering}
use Rattle.std.specs.declared.cmp.Ordering.TheVariants.{Less, Equal, Greater}
use Rattle.dc_plain.specs.Spots.{spot_at}
use Rattle.dc_plain.specs.Trees.{Tree, Spot, spot_cmp}
use Rattle.dc_store.specs.Names.{name_cmp}
use Rattle.dc_store.specs.PageLaws.{IsLater, PagesGoOn, PagesLeaveNoGap, PagesRise}
use Rattle.dc_store.specs.Pages.{behind, entries_in, is_behind}
use Rattle.dc_store.proofs.Decides.{from_test}
use Rattle.dc_store.proofs.Named.{found_in, same_bytes, sorted_in}

first : (a b : Bool) → T (a && b) → T a
first true b h = tt
first false b h = absurd h

second : (a b : Bool) → T (a && b) → T b
second true b h = h
second false b h = absurd h

-- a name that is found is above one that is below all
found_above : (low key : List ℕ) (n : ℕ) (es : List (List ℕ × ℕ)) → T (below_all name_cmp low es) → lookup name_cmp key es ≡ Some n → is_lt (name_cmp low key) ≡ true
found_above low key n [] below found = absurd cc
found_above low key n (e ∷ es) below found =
    elim (eq_by_cmp name_cmp key e.0) as (λ b. eq_by_cmp name_cmp key e.0 ≡ b → cond b (Some e.1) (lookup name_cmp key es) ≡ Some n → is_lt (name_cmp low key) ≡ true) [
      | true ↦ λ same is. subst (λ k. is_lt (name_cmp low k) ≡ true) (sym (same_bytes key e.0 same)) (from_test _ (first (is_lt (name_cmp low e.0)) (below_all name_cmp low es) below))
      | false ↦ λ other is. found_above low key n es (second (is_lt (name_cmp low e.0)) (below_all name_cmp low es) below) is
    ] refl found

-- among the first of some entries in order a name is found, or they are as many as may be and it is above all of them
found_or_later : (most : ℕ) (name : List ℕ) (n : ℕ) (es : List (List ℕ × ℕ)) → T (is_sorted name_cmp es) → lookup name_cmp name es ≡ Some n
    → (lookup name_cmp name (take most es) ≡ Some n) ⊎ IsLater most name (take most es)
found_or_later zero name n es sorted found = inr (record { full = refl; behind = tt })
found_or_later (suc most) name n [] sorted found = absurd cc
found_or_later (suc most) name n (e ∷ es) sorted found =
    elim (eq_by_cmp name_cmp name e.0) as (λ b. cond b (Some e.1) (lookup name_cmp name es) ≡ Some n → (cond b (Some e.1) (lookup name_cmp name (take most es)) ≡ Some n) ⊎ IsLater (suc most) name (e ∷ take most es)) [
      | true ↦ λ is. inl is
      | false ↦ λ is. elim (found_or_later most name n es (second (below_all name_cmp e.0 es) (is_sorted name_cmp es) sorted) is) [
        | inl there ↦ inl there
        | inr later ↦ inr (record {
          full = ap suc later.full;
          behind = (found_above e.0 name n es (first (below_all name_cmp e.0 es) (is_sorted name_cmp es) sorted) is, later.behind);
        })
      ]
    ] found

tied_both : (o p : Ordering) → is_eq (ordering_then o p) ≡ (is_eq o && is_eq p)
tied_both Less p = refl
tied_both Equal p = refl
tied_both Greater p = refl

turned : (m n : ℕ) → (m == n) ≡ (n == m)
turned m n = grind (arith, nat_tests)

tied_spots : (d : ℕ) (name : List ℕ) (s : Spot) → eq_by_cmp spot_cmp (spot_at d name) s ≡ ((s.dir == d) && eq_by_cmp name_cmp name s.name)
tied_spots d name s = tied_both (nat_cmp d s.dir) (name_cmp name s.name) ∙ ap (λ b. b && eq_by_cmp name_cmp name s.name) (unsigned_tied d s.dir ∙ turned d s.dir)

abbrev shown : Spot × ℕ → List ℕ × ℕ
shown e = (e.0.name, e.1)

found_step : (b : Bool) (name : List ℕ) (e : Spot × ℕ) (o : Option ℕ) (rest : List (Spot × ℕ)) → o ≡ lookup name_cmp name (map shown rest)
    → cond (b && eq_by_cmp name_cmp name e.0.name) (Some e.1) o ≡ lookup name_cmp name (map shown (cond b (e ∷ rest) rest))
found_step true name e o rest is = ap (cond (eq_by_cmp name_cmp name e.0.name) (Some e.1)) is
found_step false name e o rest is = is

-- a name finds in its directory what its spot finds
found_there : (d : ℕ) (name : List ℕ) (es : List (Spot × ℕ)) → lookup spot_cmp (spot_at d name) es ≡ lookup name_cmp name (map shown (filter (λ (e : Spot × ℕ). e.0.dir == d) es))
found_there d name [] = refl
found_there d name (e ∷ es) =
    ap (λ b. cond b (Some e.1) (lookup spot_cmp (spot_at d name) es)) (tied_spots d name e.0)
    ∙ found_step (e.0.dir == d) name e (lookup spot_cmp (spot_at d name) es) (filter (λ (x : Spot × ℕ). x.0.dir == d) es) (found_there d name es)

sorted_behind : (t : Tree) (d : ℕ) (after : Option (List ℕ)) → T (is_sorted name_cmp (behind after (entries_in t d)))
sorted_behind t d after = is_sorted-where_key name_cmp (is_behind after) (entries_in t d) (sorted_in (map shown (filter (λ (e : Spot × ℕ). e.0.dir == d) t.entries)))

pub no_gap : PagesLeaveNoGap
no_gap t d after most name n due =
    let names = entries_in t d in
    let there : lookup name_cmp name names ≡ Some n = found_in (map shown (filter (λ (e : Spot × ℕ). e.0.dir == d) t.entries)) name ∙ sym (found_there d name t.entries) ∙ due.leads in
    let alike : (x : List ℕ) → name_cmp name x ≡ Equal → is_behind after x ≡ is_behind after name = λ x tied. ap (is_behind after) (sym (same_bytes name x (ap is_eq tied))) in
    let found : lookup name_cmp name (behind after names) ≡ Some n =
    find-where_key name_cmp (is_behind after) name alike names ∙ ap (λ b. cond b (lookup name_cmp name names) None) due.behind ∙ there in
    found_or_later most name n (behind after names) (sorted_behind t d after) found

all_pass : (p : List ℕ → Bool) (es : List (List ℕ × ℕ)) → AllByRecursion (λ (e : List ℕ × ℕ). p e.0 ≡ true) (filter (λ (e : List ℕ × ℕ). p e.0) es)
all_pass p [] = tt
all_pass p (e ∷ es) =
    elim (p e.0) as (λ b. p e.0 ≡ b → AllByRecursion (λ (x : List ℕ × ℕ). p x.0 ≡ true) (cond b (e ∷ filter (λ (x : List ℕ × ℕ). p x.0) es) (filter (λ (x : List ℕ × ℕ). p x.0) es))) [
      | true ↦ λ is. (is, all_pass p es)
      | false ↦ λ is. all_pass p es
    ] refl

all_first : (P : List ℕ × ℕ → Type 0) (most : ℕ) (es : List (List ℕ × ℕ)) → AllByRecursion P es → AllByRecursion P (take most es)
all_first P zero es all = tt
all_first P (suc most) [] all = tt
all_first P (suc most) (e ∷ es) all = (all.0, all_first P most es all.1)

pub goes_on : PagesGoOn
goes_on t d after most = all_first (λ (e : List ℕ × ℕ). is_behind after e.0 ≡ true) most (behind after (entries_in t d)) (all_pass (is_behind after) (entries_in t d))

both : (a b : Bool) → T a → T b → T (a && b)
both true b h k = k
both false b h k = h

below_first : (low : List ℕ) (most : ℕ) (es : List (List ℕ × ℕ)) → T (below_all name_cmp low es) → T (below_all name_cmp low (take most es))
below_first low zero es below = tt
below_first low (suc most) [] below = tt
below_first low (suc most) (e ∷ es) below = both (is_lt (name_cmp low e.0)) (below_all name_cmp low (take most es)) (first (is_lt (name_cmp low e.0)) (below_all name_cmp low es) below)
    (below_first low most es (second (is_lt (name_cmp low e.0)) (below_all name_cmp low es) below))

sorted_first : (most : ℕ) (es : List (List ℕ × ℕ)) → T (is_sorted name_cmp es) → T (is_sorted name_cmp (take most es))
sorted_first zero es sorted = tt
sorted_first (suc most) [] sorted = tt
sorted_first (suc most) (e ∷ es) sorted = both (below_all name_cmp e.0 (take most es)) (is_sorted name_cmp (take most es)) (below_first e.0 most es (first (below_all name_cmp e.0 es) (is_sorted name_cmp es) sorted))
    (sorted_first most es (second (below_all name_cmp e.0 es) (is_sorted name_cmp es) sorted))

pub rise : PagesRise
rise t d after most = from_test _ (sorted_first most (behind after (entries_in t d)) (sorted_behind t d after))
