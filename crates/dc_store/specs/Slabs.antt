-- A store of inodes whose counts are how many entries lead to them.
use Rattle.std.specs.Prelude.{◌≡◌, ℕ, ◌==◌, List, map, Some, IsTrue}
use Rattle.std.specs.FinMap.Entries.{is_sorted}
use Rattle.dc_plain.specs.Trees.{Tree, how_many, names_of, names_in}
use Rattle.dc_store.specs.Inodes.{entries_of, nodes_of, inode_at}
use Rattle.dc_store.specs.Maps.{IsSound, IsNodeAt}
use Rattle.dc_store.specs.Names.{name_cmp}
use Rattle.dc_store.specs.declared.inode.Inode.{Inode}

-- the tree is well formed, each directory keeps its parent, and each inode its count
pub record IsTied (inodes : List (ℕ × Inode)) (next : ℕ) : Type 0 where
  pub sound : IsSound (entries_of inodes) (nodes_of inodes) next
  pub counted : (n : ℕ) (inode : Inode) → inode_at inodes n ≡ Some inode → inode.count ≡ how_many (λ e. e.1 == n) (entries_of inodes)

-- an inode keeps its node, how many entries lead to it, and the names in it
pub record IsInodeAt (t : Tree) (n : ℕ) (inode : Inode) : Type 0 where
  pub node : IsNodeAt t n inode.node
  pub counted : inode.count ≡ names_of t n
  pub names : IsTrue (is_sorted name_cmp inode.names) → map (λ e. e.0) inode.names ≡ names_in t n
