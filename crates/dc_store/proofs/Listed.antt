-- The names that stand in a directory are those that its inode keeps.
use Rattle.std.proofs.Common.{◌≡◌, ℕ, ◌==◌, ◌&&◌, List, [], ◌∷◌, Bool, true, false, cond, map, filter, Option, Some, None, option_and_then, IsTrue, refl, ap, sym, ◌∙◌}
use Rattle.std.specs.Cmp.{nat_cmp_total, tied_itself, unsigned_tied}
use Rattle.std.specs.FinMap.Entries.{where_key, below_all, is_sorted, is_sorted-where_key, find-where_key}
use Rattle.std.specs.FinMap.Entries.{find as lookup}
use Rattle.std.specs.Ordering.{nat_cmp, eq_by_cmp, is_eq, is_lt, ordering_then}
use Rattle.std.specs.declared.cmp.Ordering.{Ordering}
use Rattle.std.specs.declared.cmp.Ordering.TheVariants.{Less, Equal, Greater}
use Rattle.dc_plain.specs.Trees.{Spot, spot_cmp}
use Rattle.dc_plain.specs.BytesShown.{names_by}
use Rattle.dc_store.specs.Names.{name_cmp}
use Rattle.dc_store.specs.Inodes.{entries_of, inode_at, led_to}
use Rattle.dc_plain.specs.Spots.{spot_at}
use Rattle.dc_store.specs.declared.inode.Inode.{Inode}
use Rattle.dc_store.proofs.Entered.{sorted_entries, found_spot}
use Rattle.dc_store.proofs.Spots.{same_spot, same_spots}
use Rattle.dc_store.proofs.Decides.{same_number, to_test}

-- the entry of a name in a directory
entered : ℕ → List ℕ × ℕ → Spot × ℕ
entered d x = (spot_at d x.0, x.1)

same_order : (d : ℕ) (a b : List ℕ) → spot_cmp (spot_at d a) (spot_at d b) ≡ name_cmp a b
same_order d a b = ap (λ o. ordering_then o (name_cmp a b)) (tied_itself nat_cmp_total d)

below_same : (d : ℕ) (a : List ℕ) (xs : List (List ℕ × ℕ)) → below_all spot_cmp (spot_at d a) (map (entered d) xs) ≡ below_all name_cmp a xs
unfolding entered
below_same d a [] = refl
below_same d a (x ∷ xs) = λ i. is_lt (same_order d a x.0 i) && below_same d a xs i

sorted_same : (d : ℕ) (xs : List (List ℕ × ℕ)) → is_sorted spot_cmp (map (entered d) xs) ≡ is_sorted name_cmp xs
unfolding entered
sorted_same d [] = refl
sorted_same d (x ∷ xs) = λ i. below_same d x.0 xs i && sorted_same d xs i

found_same : (d : ℕ) (xs : List (List ℕ × ℕ)) (q : Spot) → lookup spot_cmp q (map (entered d) xs) ≡ cond (eq_by_cmp nat_cmp q.dir d) (lookup name_cmp q.name xs) None
unfolding entered
found_same d [] q = elim (eq_by_cmp nat_cmp q.dir d) as (λ b. ◌≡◌ {A = Option ℕ} None (cond b None None)) [ true ↦ refl | false ↦ refl ]
found_same d (x ∷ xs) q = ap (cond (eq_by_cmp spot_cmp q (spot_at d x.0)) (Some x.1)) (found_same d xs q) ∙ at (nat_cmp q.dir d)
  where
    at : (o : Ordering) → cond (is_eq (ordering_then o (name_cmp q.name x.0))) (Some x.1) (cond (is_eq o) (lookup name_cmp q.name xs) None) ≡ cond (is_eq o) (cond (eq_by_cmp name_cmp q.name x.0) (Some x.1) (lookup name_cmp q.name xs)) None
    at Less = refl
    at Equal = refl
    at Greater = refl

-- the names of an inode, if it is there
abbrev pub names_at : Option Inode → List (List ℕ × ℕ)
names_at None = []
names_at (Some inode) = inode.names

led_at : (o : Option Inode) (name : List ℕ) → lookup name_cmp name (names_at o) ≡ option_and_then (λ (i : Inode). lookup name_cmp name i.names) o
led_at None name = refl
led_at (Some inode) name = refl

module _ (inodes : List (ℕ × Inode)) (sorted : IsTrue (is_sorted nat_cmp inodes)) (d : ℕ) (ordered : IsTrue (is_sorted name_cmp (names_at (inode_at inodes d)))) where
  standing : where_key spot_cmp (λ s. s.dir == d) (entries_of inodes) ≡ map (entered d) (names_at (inode_at inodes d))
  standing = same_spots (where_key spot_cmp (λ s. s.dir == d) (entries_of inodes)) (map (entered d) (names_at (inode_at inodes d)))
      (is_sorted-where_key spot_cmp (λ s. s.dir == d) (entries_of inodes) (sorted_entries inodes)) (to_test _ (sorted_same d (names_at (inode_at inodes d)) ∙ ordered)) (λ q.
      find-where_key spot_cmp (λ s. s.dir == d) q (λ x tied. ap (λ (s : Spot). s.dir == d) (sym (same_spot q x (ap is_eq tied)))) (entries_of inodes)
      ∙ ap (λ o. cond (q.dir == d) o None) (found_spot inodes (to_test _ sorted) q)
      ∙ ap (λ b. cond b (led_to inodes q.dir q.name) None) (sym (unsigned_tied q.dir d))
      ∙ at q (eq_by_cmp nat_cmp q.dir d) refl
      ∙ sym (found_same d (names_at (inode_at inodes d)) q))
    where
      at : (q : Spot) (b : Bool) → eq_by_cmp nat_cmp q.dir d ≡ b → cond b (led_to inodes q.dir q.name) None ≡ cond b (lookup name_cmp q.name (names_at (inode_at inodes d))) None
      at q true same = sym (led_at (inode_at inodes q.dir) q.name) ∙ ap (λ k. lookup name_cmp q.name (names_at (inode_at inodes k))) (same_number q.dir d same)
      at q false other = refl

  names_same : (xs : List (List ℕ × ℕ)) → map (λ (e : Spot × ℕ). e.0.name) (map (entered d) xs) ≡ map (λ e. e.0) xs
  unfolding entered
  names_same [] = refl
  names_same (x ∷ xs) = ap (λ l. x.0 ∷ l) (names_same xs)

  pub names_listed : names_by d (entries_of inodes) ≡ map (λ e. e.0) (names_at (inode_at inodes d))
  names_listed = ap (map (λ (e : Spot × ℕ). e.0.name)) standing ∙ names_same (names_at (inode_at inodes d))

  pairs_same : (xs : List (List ℕ × ℕ)) → map (λ (e : Spot × ℕ). (e.0.name, e.1)) (map (entered d) xs) ≡ xs
  unfolding entered
  pairs_same [] = refl
  pairs_same (x ∷ xs) = ap (λ l. x ∷ l) (pairs_same xs)

  -- and they lead to the numbers that it keeps
  pub pairs_listed : map (λ (e : Spot × ℕ). (e.0.name, e.1)) (filter (λ (e : Spot × ℕ). e.0.dir == d) (entries_of inodes)) ≡ names_at (inode_at inodes d)
  pairs_listed = ap (map (λ (e : Spot × ℕ). (e.0.name, e.1))) standing ∙ pairs_same (names_at (inode_at inodes d))
