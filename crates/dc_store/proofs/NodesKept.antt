-- The nodes of inodes under their numbers, as one of them changes.
use Rattle.std.proofs.Common.{◌≡◌, ℕ, ◌==◌, List, [], ◌∷◌, Bool, true, false, not, cond, if◌then◌else◌, map, Option, Some, None, option_map, T, refl, ap, sym, ◌∙◌, subst}
use Rattle.std.specs.BTreeMap.{is_at, insert_entry}
use Rattle.std.specs.Cmp.{nat_cmp_total, unsigned_tied}
use Rattle.std.specs.FinMap.Entries.{put, is_sorted, where_key, same_entries}
use Rattle.std.specs.FinMap.Entries.{find as lookup}
use Rattle.std.specs.Map.{remove_entry}
use Rattle.std.specs.Ordering.{nat_cmp, eq_by_cmp, is_eq}
use Rattle.std.specs.declared.cmp.Ordering.TheVariants.{Equal}
use Rattle.dc_store.specs.Inodes.{nodes_of, inode_at, changed, held_by, without_inode}
use Rattle.dc_store.specs.Maps.{inode_shown, node_shown, node_at, with_parent}
use Rattle.dc_store.specs.declared.inode.Inode.{Inode}
use Rattle.dc_store.specs.declared.node.Node as rust_node
use Rattle.dc_store.proofs.Changed.{found_changed, sorted_changed}
use Rattle.dc_store.proofs.Mapped.{found_map, put_map, sorted_map, where_map}
use Rattle.dc_store.proofs.Maps.{insert_put, lookup_find, remove_shown, all_of_each}
use Rattle.dc_store.proofs.Nodes.{shown_the_same}
use Rattle.dc_store.proofs.Decides.{same_number}

exact : (m n : ℕ) → nat_cmp m n ≡ Equal → m ≡ n
exact m n e = same_number m n (ap is_eq e)

map_itself : {X : Type 0} (es : List (ℕ × X)) → map (λ e. (e.0, e.1)) es ≡ es
map_itself [] = refl
map_itself (e ∷ es) = ap (λ l. e ∷ l) (map_itself es)

-- the node of an inode, and what it stands for
abbrev node_in : Inode → rust_node.Node
node_in inode = inode.node

pub node_found : (inodes : List (ℕ × Inode)) (q : ℕ) → node_at (nodes_of inodes) q ≡ option_map (λ (inode : Inode). inode.node) (inode_at inodes q)
node_found inodes q = lookup_find nat_cmp_total q (nodes_of inodes) ∙ found_map node_in q inodes

-- a number finds what the node of its inode stands for
pub shown_at : (q : ℕ) (es : List (ℕ × Inode)) → lookup nat_cmp q (map inode_shown (nodes_of es)) ≡ option_map (λ (i : Inode). node_shown i.node) (inode_at es q)
shown_at q es = found_map node_shown q (nodes_of es) ∙ ap (option_map node_shown) (found_map node_in q es) ∙ twice (inode_at es q)
  where
    twice : (o : Option Inode) → option_map node_shown (option_map node_in o) ≡ option_map (λ (i : Inode). node_shown i.node) o
    twice None = refl
    twice (Some i) = refl

pub sorted_shown : (inodes : List (ℕ × Inode)) → is_sorted nat_cmp (map inode_shown (nodes_of inodes)) ≡ is_sorted nat_cmp inodes
sorted_shown inodes = sorted_map node_shown (nodes_of inodes) ∙ sorted_map node_in inodes

pub nodes_put : (n : ℕ) (inode : Inode) (inodes : List (ℕ × Inode)) → nodes_of (put nat_cmp n inode inodes) ≡ insert_entry nat_cmp (nodes_of inodes) n inode.node
nodes_put n inode inodes = put_map node_in n inode inodes ∙ sym (insert_put nat_cmp_total n inode.node (nodes_of inodes))

module _ (inodes : List (ℕ × Inode)) (sorted : T (is_sorted nat_cmp inodes)) where
  sorted_nodes : T (is_sorted nat_cmp (nodes_of inodes))
  sorted_nodes = subst T (sym (sorted_map node_in inodes)) sorted

  pub nodes_less : (n : ℕ) → nodes_of (without_inode n inodes) ≡ remove_entry (is_at (nat_cmp n)) (nodes_of inodes)
  nodes_less n =
      where_map node_in (λ q. not (eq_by_cmp nat_cmp n q)) inodes ∙ sym (ap (where_key nat_cmp (λ q. not (eq_by_cmp nat_cmp n q))) (map_itself (nodes_of inodes)))
      ∙ sym (remove_shown nat_cmp nat_cmp_total (λ k. k) (λ (v : rust_node.Node). v) (nat_cmp n) n (nodes_of inodes) (all_of_each _ (λ e. refl) (nodes_of inodes)) (subst (λ es. T (is_sorted nat_cmp es)) (sym (map_itself (nodes_of inodes))) sorted_nodes))
      ∙ map_itself (remove_entry (is_at (nat_cmp n)) (nodes_of inodes))

  module _ (n : ℕ) (f : Inode → Inode) where
    changed_in : {Y : Type 0} (g : Inode → Y) → ((inode : Inode) → g (f inode) ≡ g inode) → (b : Bool) (o : Option Inode) → option_map g (cond b (option_map f o) o) ≡ option_map g o
    changed_in g same true None = refl
    changed_in g same true (Some inode) = ap (λ y. Some y) (same inode)
    changed_in g same false o = refl

    -- the node stays
    pub nodes_kept : ((inode : Inode) → (f inode).node ≡ inode.node) → nodes_of (changed n f inodes) ≡ nodes_of inodes
    nodes_kept same = same_entries nat_cmp nat_cmp_total exact (nodes_of (changed n f inodes)) (nodes_of inodes)
        (subst T (sym (sorted_map node_in (changed n f inodes))) (sorted_changed n f inodes sorted)) sorted_nodes (λ q.
        found_map node_in q (changed n f inodes) ∙ ap (option_map node_in) (found_changed n f inodes q) ∙ changed_in node_in same (eq_by_cmp nat_cmp q n) (inode_at inodes q) ∙ sym (found_map node_in q inodes))

    -- what it stands for stays
    pub shown_kept : ((inode : Inode) → node_shown (f inode).node ≡ node_shown inode.node) → map inode_shown (nodes_of (changed n f inodes)) ≡ map inode_shown (nodes_of inodes)
    shown_kept same = same_entries nat_cmp nat_cmp_total exact (map inode_shown (nodes_of (changed n f inodes))) (map inode_shown (nodes_of inodes))
        (subst T (sym (sorted_shown (changed n f inodes))) (sorted_changed n f inodes sorted)) (subst T (sym (sorted_shown inodes)) sorted) (λ q.
        shown_at q (changed n f inodes) ∙ ap (option_map (λ (i : Inode). node_shown i.node)) (found_changed n f inodes q) ∙ changed_in (λ (i : Inode). node_shown i.node) same (eq_by_cmp nat_cmp q n) (inode_at inodes q) ∙ sym (shown_at q inodes))

  -- a directory gets another parent
  pub held_shown : (n parent : ℕ) → map inode_shown (nodes_of (changed n (held_by parent) inodes)) ≡ map inode_shown (nodes_of inodes)
  held_shown n parent = shown_kept n (held_by parent) (λ inode. shown_the_same parent inode.node)

  pub held_set : (n parent q : ℕ) → node_at (nodes_of (changed n (held_by parent) inodes)) q ≡ (if q == n then option_map (with_parent parent) (node_at (nodes_of inodes) q) else node_at (nodes_of inodes) q)
  held_set n parent q =
      node_found (changed n (held_by parent) inodes) q ∙ ap (option_map node_in) (found_changed n (held_by parent) inodes q)
      ∙ at (eq_by_cmp nat_cmp q n) (inode_at inodes q)
      ∙ (λ i. cond (unsigned_tied q n i) (option_map (with_parent parent) (sym (node_found inodes q) i)) (sym (node_found inodes q) i))
    where
      at : (b : Bool) (o : Option Inode) → option_map node_in (cond b (option_map (held_by parent) o) o) ≡ cond b (option_map (with_parent parent) (option_map node_in o)) (option_map node_in o)
      at true None = refl
      at true (Some i) = refl
      at false o = refl
