-- What an inode says of the tree that the inodes stand for.
use Rattle.std.proofs.Common.{◌≡◌, ℕ, zero, suc, ◌==◌, List, [], map, filter, take, Bor, Option, Some, None, option_map, IfSome, IfNone, IsTrue, refl, ap, sym, ◌∙◌, subst, arith}
use Rattle.std.specs.FinMap.Entries.{is_sorted}
use Rattle.std.specs.Option.{option_copied}
use Rattle.dc_plain.specs.Trees.{Tree, Spot, how_many, inode_of, names_in}
use Rattle.dc_store.specs.Inodes.{entries_of, nodes_of, inode_at}
use Rattle.dc_plain.specs.BytesShown.{names_by}
use Rattle.dc_store.specs.Maps.{node_shown, IsNodeAt}
use Rattle.dc_store.specs.Names.{name_cmp}
use Rattle.dc_store.specs.Names as names
use Rattle.dc_store.specs.Slabs.{IsInodeAt}
use Rattle.dc_store.specs.declared.inode.Inode.{Inode}
use Rattle.dc_store.proofs.Keeps.{Keeps, in_order, entries_are, inode_is}
use Rattle.dc_store.specs.Pages.{behind, entries_in, page_of, told_in}
use Rattle.dc_store.proofs.Listed.{names_at, names_listed, pairs_listed}
use Rattle.dc_store.proofs.Nodes.{copied_mapped, told}
use Rattle.dc_store.proofs.NodesKept.{node_found}
use Rattle.dc_store.proofs.Stores.{sound_as}
use Rattle.dc_store.proofs.Named.{still_in_order}
use Rattle.dc_store.proofs.Decides.{from_test, to_test}

module _ {inodes : List (ℕ × Inode)} {next : ℕ} {t : Tree} (now : Keeps inodes next t) (n : ℕ) where
  names_of_tree : IsTrue (is_sorted name_cmp (names_at (inode_at inodes n))) → map (λ e. e.0) (names_at (inode_at inodes n)) ≡ names_in t n
  names_of_tree ordered = sym (names_listed inodes (from_test _ (in_order now)) n ordered) ∙ ap (names_by n) (entries_are now)

  -- if nothing lives there no name stands
  none_in : inode_at inodes n ≡ None → [] ≡ names_in t n
  none_in none = sym (ap (λ o. map (λ e. e.0) (names_at o)) none) ∙ names_of_tree (subst (λ o. IsTrue (is_sorted name_cmp (names_at o))) (sym none) refl)

  node_told : (inode : Inode) → inode_at inodes n ≡ Some inode → IsNodeAt t n inode.node
  node_told inode e = subst (λ (u : Tree). IsNodeAt u n inode.node) now.shows.shows (told (entries_of inodes) (nodes_of inodes) next n (sound_as now.shows) inode.node (node_found inodes n ∙ ap (option_map (λ (i : Inode). i.node)) e))

  told_by : (inode : Inode) → inode_at inodes n ≡ Some inode → IsInodeAt t n inode
  told_by inode e = record {
    node = node_told inode e;
    counted =
        let had = now.counted n inode e in
        let same : how_many (λ (x : Spot × ℕ). x.1 == n) (entries_of inodes) ≡ how_many (λ (x : Spot × ℕ). x.1 == n) t.entries = ap (how_many (λ (x : Spot × ℕ). x.1 == n)) (entries_are now) in
        omega arith;
    names = λ ordered. sym (ap (λ o. map (λ e. e.0) (names_at o)) e) ∙ names_of_tree (subst (λ o. IsTrue (is_sorted name_cmp (names_at o))) (sym e) ordered);
  }

  pub inode_shown : (o : Option (Bor Inode)) → option_copied o ≡ inode_at inodes n → option_map (λ inode. node_shown inode.now.node) o ≡ inode_of t n
  inode_shown o is = copied_mapped (λ (i : Inode). node_shown i.node) o ∙ ap (option_map (λ (i : Inode). node_shown i.node)) is ∙ sym (inode_is now n)

  pub inode_told : (o : Option (Bor Inode)) → option_copied o ≡ inode_at inodes n → IfSome o (λ inode. IsInodeAt t n inode.now)
  inode_told None is = tt
  inode_told (Some b) is = told_by b.now (sym is)

  pub none_told : (o : Option (Bor Inode)) → option_copied o ≡ inode_at inodes n → IfNone o ([] ≡ names_in t n)
  none_told None is = none_in (sym is)
  none_told (Some b) is = tt

  abbrev pairs : List (Spot × ℕ) → List (List ℕ × ℕ)
  pairs es = map (λ (e : Spot × ℕ). (e.0.name, e.1)) (filter (λ (e : Spot × ℕ). e.0.dir == n) es)

  pairs_of_tree : IsTrue (is_sorted name_cmp (names_at (inode_at inodes n))) → names_at (inode_at inodes n) ≡ entries_in t n
  pairs_of_tree ordered =
      let same : names_at (inode_at inodes n) ≡ pairs t.entries = sym (pairs_listed inodes (from_test _ (in_order now)) n ordered) ∙ ap pairs (entries_are now) in
      sym (still_in_order (names_at (inode_at inodes n)) (to_test _ ordered)) ∙ ap names.in_order same

  -- the entries of a directory are those of its inode
  pub entries_told : (inode : Inode) → Some inode ≡ inode_at inodes n → IsTrue (is_sorted name_cmp inode.names) → inode.names ≡ entries_in t n
  entries_told inode e ordered = ap names_at e ∙ pairs_of_tree (subst (λ o. IsTrue (is_sorted name_cmp (names_at o))) e ordered)

  -- if nothing lives there is none
  pub no_entries : None ≡ inode_at inodes n → [] ≡ entries_in t n
  no_entries none = ap names_at none ∙ pairs_of_tree (subst (λ o. IsTrue (is_sorted name_cmp (names_at o))) none refl)

take_none : (most : ℕ) → ◌≡◌ {A = List (List ℕ × ℕ)} [] (take most [])
take_none zero = refl
take_none (suc most) = refl

-- a page of no entries is empty
pub no_page : (t : Tree) (d : ℕ) (after : Option (List ℕ)) (most : ℕ) → [] ≡ entries_in t d → [] ≡ page_of t d after most
no_page t d after most none = ap (map (told_in t)) (take_none most) ∙ ap (λ (es : List (List ℕ × ℕ)). map (told_in t) (take most (behind after es))) none
