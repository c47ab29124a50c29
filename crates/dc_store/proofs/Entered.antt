-- The entries of inodes in order: what a name finds, and how they change as an inode does.
use Rattle.std.proofs.Common.{◌≡◌, ℕ, List, [], ◌∷◌, Bool, true, false, cond, ◌&&◌, Option, Some, None, option_and_then, T, refl, ap, ◌∙◌}
use Rattle.std.specs.FinMap.Entries.{below_all, is_sorted, is_sorted-put, find-put}
use Rattle.std.specs.FinMap.Entries.{find as lookup}
use Rattle.std.specs.Ordering.{nat_cmp, eq_by_cmp, is_eq, is_lt, ordering_then}
use Rattle.std.specs.declared.cmp.Ordering.{Ordering}
use Rattle.std.specs.declared.cmp.Ordering.TheVariants.{Less, Equal, Greater}
use Rattle.dc_plain.specs.Trees.{Spot, spot_cmp}
use Rattle.dc_store.specs.Names.{name_cmp}
use Rattle.dc_store.specs.Inodes.{with_names, entries_of, inode_at, led_to}
use Rattle.dc_plain.specs.Spots.{spot_at}
use Rattle.dc_store.specs.declared.inode.Inode.{Inode}
use Rattle.dc_store.proofs.Spots.{spots_total}
use Rattle.dc_store.proofs.Decides.{same_number}

sorted_names : (d : ℕ) (names : List (List ℕ × ℕ)) (es : List (Spot × ℕ)) → T (is_sorted spot_cmp es) → T (is_sorted spot_cmp (with_names d names es))
sorted_names d [] es s = s
sorted_names d (x ∷ xs) es s = is_sorted-put spot_cmp spots_total (spot_at d x.0) x.1 (with_names d xs es) (sorted_names d xs es s)

pub sorted_entries : (inodes : List (ℕ × Inode)) → T (is_sorted spot_cmp (entries_of inodes))
sorted_entries [] = tt
sorted_entries (e ∷ es) = sorted_names e.0 e.1.names (entries_of es) (sorted_entries es)

-- the first of two that is found
abbrev or_else : Option ℕ → Option ℕ → Option ℕ
or_else None p = p
or_else (Some n) p = Some n

first_of : (b : Bool) (n : ℕ) (o p : Option ℕ) → cond b (Some n) (or_else o p) ≡ or_else (cond b (Some n) o) p
first_of true n o p = refl
first_of false n o p = refl

-- where a spot is found, by how its directory compares
abbrev by_directory : Ordering → Option ℕ → Option ℕ → Option ℕ
by_directory Less here else = else
by_directory Equal here else = or_else here else
by_directory Greater here else = else

names_step : (o p : Ordering) (n : ℕ) (here else : Option ℕ) → cond (is_eq (ordering_then o p)) (Some n) (by_directory o here else) ≡ by_directory o (cond (is_eq p) (Some n) here) else
names_step Less p n here else = refl
names_step Equal p n here else = first_of (is_eq p) n here else
names_step Greater p n here else = refl

names_none : (o : Ordering) (else : Option ℕ) → else ≡ by_directory o None else
names_none Less else = refl
names_none Equal else = refl
names_none Greater else = refl

found_names : (d : ℕ) (names : List (List ℕ × ℕ)) (es : List (Spot × ℕ)) (q : Spot) → lookup spot_cmp q (with_names d names es) ≡ by_directory (nat_cmp q.dir d) (lookup name_cmp q.name names) (lookup spot_cmp q es)
found_names d [] es q = names_none (nat_cmp q.dir d) (lookup spot_cmp q es)
found_names d (x ∷ xs) es q =
    find-put spot_cmp spots_total q (spot_at d x.0) x.1 (with_names d xs es)
    ∙ ap (cond (eq_by_cmp spot_cmp q (spot_at d x.0)) (Some x.1)) (found_names d xs es q)
    ∙ names_step (nat_cmp q.dir d) (name_cmp q.name x.0) x.1 (lookup name_cmp q.name xs) (lookup spot_cmp q es)

and_parts : (a b : Bool) → T (a && b) → T a × T b
and_parts true b h = (tt, h)
and_parts false b h = absurd h

above : (o : Ordering) → T (is_lt o) → is_eq o ≡ false
above Less h = refl
above Equal h = absurd h
above Greater h = absurd h

none_below : (n : ℕ) (es : List (ℕ × Inode)) → T (below_all nat_cmp n es) → inode_at es n ≡ None
none_below n [] h = refl
none_below n (e ∷ es) h =
    let parts = and_parts (is_lt (nat_cmp n e.0)) (below_all nat_cmp n es) h in
    ap (λ b. cond b (Some e.1) (inode_at es n)) (above (nat_cmp n e.0) parts.0) ∙ none_below n es parts.1

-- a spot finds what its name leads to in its directory
pub found_spot : (inodes : List (ℕ × Inode)) → T (is_sorted nat_cmp inodes) → (q : Spot) → lookup spot_cmp q (entries_of inodes) ≡ led_to inodes q.dir q.name
found_spot [] sorted q = refl
found_spot (e ∷ es) sorted q =
    let parts = and_parts (below_all nat_cmp e.0 es) (is_sorted nat_cmp es) sorted in
    found_names e.0 e.1.names (entries_of es) q ∙ ap (by_directory (nat_cmp q.dir e.0) (lookup name_cmp q.name e.1.names)) (found_spot es parts.1 q)
    ∙ elim (nat_cmp q.dir e.0) as (λ o. nat_cmp q.dir e.0 ≡ o → by_directory o (lookup name_cmp q.name e.1.names) (led_to es q.dir q.name) ≡ option_and_then (λ (i : Inode). lookup name_cmp q.name i.names) (cond (is_eq o) (Some e.1) (inode_at es q.dir))) [
      | Less ↦ λ is. refl
      | Equal ↦ λ is.
          let none : inode_at es q.dir ≡ None = ap (inode_at es) (same_number q.dir e.0 (ap is_eq is)) ∙ none_below e.0 es parts.0 in
          ap (λ o. or_else (lookup name_cmp q.name e.1.names) (option_and_then (λ (i : Inode). lookup name_cmp q.name i.names) o)) none ∙ alone (lookup name_cmp q.name e.1.names)
      | Greater ↦ λ is. refl
    ] refl
  where
    alone : (o : Option ℕ) → or_else o None ≡ o
    alone None = refl
    alone (Some n) = refl
