-- The names in a directory, found, put in and taken out by their bytes.
use Rattle.std.proofs.Common.{◌≡◌, ℕ, List, [], ◌∷◌, Bool, true, false, not, cond, ◌&&◌, Option, Some, None, IsTrue, T, refl, ap, sym, subst, ◌∙◌}
use Rattle.std.proofs.lemmas.Map.Lookups.{exact_bytes}
use Rattle.std.specs.Cmp.Lexicographic.{bytes_decides, nat_list_cmp_total, nat_list_eq_equiv, texts_ties}
use Rattle.std.specs.BTreeMap.{is_at, insert_entry}
use Rattle.std.specs.FinMap.Entries.{put, below_all, is_sorted, is_sorted-put, find-put, same_entries}
use Rattle.std.specs.FinMap.Entries.{find as lookup_entry}
use Rattle.std.specs.List.{AllByRecursion}
use Rattle.std.specs.List.Sorted.{IsStrictlySortedBy}
use Rattle.std.specs.Map.{keys_of, lookup, remove_entry}
use Rattle.std.specs.Ordering.{eq_by_cmp, is_lt}
use Rattle.std.specs.declared.cmp.Ordering.TheVariants.{Less}
use Rattle.dc_store.specs.Names.{in_order, name_cmp, without_name}
use Rattle.dc_store.proofs.Maps.{insert_put, lookup_find}
use Rattle.dc_store.proofs.Decides.{from_test}

pub same_bytes : (a b : List ℕ) → eq_by_cmp name_cmp a b ≡ true → a ≡ b
same_bytes a b e = (bytes_decides a b).0 (texts_ties a b ∙ e)

pub same_names : (es fs : List (List ℕ × ℕ)) → T (is_sorted name_cmp es) → T (is_sorted name_cmp fs) → ((q : List ℕ) → lookup_entry name_cmp q es ≡ lookup_entry name_cmp q fs) → es ≡ fs
same_names = same_entries name_cmp nat_list_cmp_total exact_bytes

-- ---- entries that were put in order
pub sorted_in : (es : List (List ℕ × ℕ)) → T (is_sorted name_cmp (in_order es))
sorted_in [] = tt
sorted_in (e ∷ es) = is_sorted-put name_cmp nat_list_cmp_total e.0 e.1 (in_order es) (sorted_in es)

pub found_in : (es : List (List ℕ × ℕ)) (q : List ℕ) → lookup_entry name_cmp q (in_order es) ≡ lookup_entry name_cmp q es
found_in [] q = refl
found_in (e ∷ es) q = find-put name_cmp nat_list_cmp_total q e.0 e.1 (in_order es) ∙ ap (cond (eq_by_cmp name_cmp q e.0) (Some e.1)) (found_in es q)

-- what is in order stays as it is
pub still_in_order : (es : List (List ℕ × ℕ)) → T (is_sorted name_cmp es) → in_order es ≡ es
still_in_order es sorted = same_names (in_order es) es (sorted_in es) sorted (found_in es)

-- ---- the entries of a map
both : (a b : Bool) → T a → T b → T (a && b)
both true b s t = t
both false b s t = s

above : (name : List ℕ) (es : List (List ℕ × ℕ)) → AllByRecursion (λ k. name_cmp name k ≡ Less) (keys_of es) → T (below_all name_cmp name es)
above name [] all = tt
above name (e ∷ es) all = both (is_lt (name_cmp name e.0)) (below_all name_cmp name es) (subst (λ o. T (is_lt o)) (sym all.0) tt) (above name es all.1)

-- names that rise are in order
rising : (es : List (List ℕ × ℕ)) → IsStrictlySortedBy name_cmp (keys_of es) → T (is_sorted name_cmp es)
unfolding IsStrictlySortedBy
rising [] ordered = tt
rising (e ∷ es) ordered = both (below_all name_cmp e.0 es) (is_sorted name_cmp es) (above e.0 es ordered.0) (rising es ordered.1)

pub names_sorted : (es : List (List ℕ × ℕ)) {names : List (List ℕ × ℕ)} → es ≡ names → IsStrictlySortedBy name_cmp (keys_of es) → IsTrue (is_sorted name_cmp names)
names_sorted es view ordered = subst (λ names. IsTrue (is_sorted name_cmp names)) view (from_test _ (rising es ordered))

tied_ways : (a b : List ℕ) → eq_by_cmp name_cmp a b ≡ eq_by_cmp name_cmp b a
tied_ways a b = sym (texts_ties a b) ∙ nat_list_eq_equiv.symm a b ∙ texts_ties b a

-- what a query finds in a map
abbrev pub found_by : List ℕ → List (List ℕ × ℕ) → Option ℕ
found_by name es = lookup (is_at (name_cmp name)) es

none_taken : (name : List ℕ) (es : List (List ℕ × ℕ)) → found_by name es ≡ None → es ≡ without_name name es
none_taken name [] none = refl
none_taken name (e ∷ es) none =
    elim (eq_by_cmp name_cmp name e.0) as (λ b. cond b (Some e.1) (found_by name es) ≡ None → e ∷ es ≡ cond (not b) (e ∷ without_name name es) (without_name name es)) [
      | true ↦ λ is. absurd cc
      | false ↦ λ is. ap (λ l. e ∷ l) (none_taken name es is)
    ] none

one_taken : (name : List ℕ) (es : List (List ℕ × ℕ)) → found_by name (remove_entry (is_at (name_cmp name)) es) ≡ None → remove_entry (is_at (name_cmp name)) es ≡ without_name name es
one_taken name [] none = refl
one_taken name (e ∷ es) none =
    let less = remove_entry (is_at (name_cmp name)) es in
    elim (eq_by_cmp name_cmp name e.0) as (λ b. eq_by_cmp name_cmp name e.0 ≡ b → found_by name (cond b es (e ∷ less)) ≡ None → cond b es (e ∷ less) ≡ cond (not b) (e ∷ without_name name es) (without_name name es)) [
      | true ↦ λ tied is. none_taken name es is
      | false ↦ λ other is. ap (λ l. e ∷ l) (one_taken name es (sym (ap (λ b. cond b (Some e.1) (found_by name less)) other) ∙ is))
    ] refl none

-- a map and the names that it is seen as, and a query for a name
module _ (es : List (List ℕ × ℕ)) {names : List (List ℕ × ℕ)} (view : es ≡ names) (name : List ℕ) {sought : List ℕ} (is : sought ≡ name) where
  pub found : found_by sought es ≡ lookup_entry name_cmp name names
  found = ap (λ k. found_by k es) is ∙ lookup_find nat_list_cmp_total name es ∙ ap (lookup_entry name_cmp name) view

  pub entered : (n : ℕ) {fs : List (List ℕ × ℕ)} → fs ≡ insert_entry name_cmp es sought n → fs ≡ put name_cmp name n names
  entered n done = done ∙ insert_put nat_list_cmp_total sought n es ∙ (λ i. put name_cmp (is i) n (view i))

  pub redirected : (n : ℕ) (fs : List (List ℕ × ℕ)) → IsStrictlySortedBy name_cmp (keys_of es) → IsStrictlySortedBy name_cmp (keys_of fs)
      → ((q : List ℕ) → found_by q fs ≡ cond (eq_by_cmp name_cmp sought q) (Some n) (found_by q es)) → fs ≡ put name_cmp name n names
  redirected n fs before after by_name =
      same_names fs (put name_cmp name n es) (rising fs after) (is_sorted-put name_cmp nat_list_cmp_total name n es (rising es before))
      (λ q. sym (lookup_find nat_list_cmp_total q fs) ∙ by_name q ∙ (λ i. cond (eq_by_cmp name_cmp (is i) q) (Some n) (lookup_find nat_list_cmp_total q es i))
      ∙ ap (λ b. cond b (Some n) (lookup_entry name_cmp q es)) (tied_ways name q) ∙ sym (find-put name_cmp nat_list_cmp_total q name n es))
      ∙ ap (put name_cmp name n) view

  pub taken_out : {fs : List (List ℕ × ℕ)} → fs ≡ remove_entry (is_at (name_cmp sought)) es → found_by sought fs ≡ None → fs ≡ without_name name names
  taken_out done none =
      done ∙ one_taken sought es (ap (found_by sought) (sym done) ∙ none) ∙ (λ i. without_name (is i) (view i))
