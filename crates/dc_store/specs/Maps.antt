-- The plain tree that entries and nodes stand for.
use Rattle.std.specs.Prelude.{◌≡◌, ⊤, ℕ, option_map, IfSome, IsTrue, ◌==◌, List, map, Option, Some, None, if◌then◌else◌}
use Rattle.std.specs.BTreeMap.{is_at}
use Rattle.std.specs.Map.{lookup, remove_entry}
use Rattle.std.specs.Ordering.{nat_cmp}
use Rattle.dc_names.specs.Paths.{fault_of}
use Rattle.dc_plain.specs.Trees.{Tree, Inode, Spot, how_many, holder_of, entry_of, text_in, is_live_directory}
use Rattle.dc_plain.specs.Facts.Label.{Parent}
use Rattle.dc_plain.specs.Trees.Inode.{Directory, Regular, Symbolic}
use Rattle.dc_plain.specs.IsWellFormed.{IsWellFormed}
use Rattle.dc_store.specs.declared.node.Node as rust_node
use Rattle.dc_store.specs.declared.node.Node.TheVariants as kinds

-- what a node stands for
abbrev pub node_shown : rust_node.Node → Inode
node_shown (kinds.Dir up) = Directory
node_shown kinds.File = Regular
node_shown (kinds.Link text) = Symbolic text.items

-- a directory's parent, as its node keeps it
abbrev pub parent_kept : rust_node.Node → Option ℕ
parent_kept (kinds.Dir up) = Some up
parent_kept kinds.File = None
parent_kept (kinds.Link text) = None

-- a new node for an entry in a directory: a directory's parent is that one, and a link's text has a path
abbrev pub CanKeep : ℕ → rust_node.Node → Type 0
CanKeep d (kinds.Dir up) = up ≡ d
CanKeep d kinds.File = ⊤
CanKeep d (kinds.Link text) = fault_of text.items ≡ None

abbrev pub inode_shown : ℕ × rust_node.Node → ℕ × Inode
inode_shown e = (e.0, node_shown e.1)

-- the tree of the entries, the nodes under their numbers, and the next number
abbrev pub tree_in : List (Spot × ℕ) → List (ℕ × rust_node.Node) → ℕ → Tree
tree_in entries nodes next = record { entries = entries; inodes = map inode_shown nodes; next = next }

abbrev pub node_at : List (ℕ × rust_node.Node) → ℕ → Option rust_node.Node
node_at nodes n = lookup (is_at (nat_cmp n)) nodes

-- without the node of what was replaced, if no entry leads to it
abbrev pub nodes_after : Option ℕ → List (Spot × ℕ) → List (ℕ × rust_node.Node) → List (ℕ × rust_node.Node)
nodes_after None entries nodes = nodes
nodes_after (Some n) entries nodes = if how_many (λ e. e.1 == n) entries == 0 then remove_entry (is_at (nat_cmp n)) nodes else nodes

-- a directory with another parent
abbrev pub with_parent : ℕ → rust_node.Node → rust_node.Node
with_parent up (kinds.Dir old) = kinds.Dir up
with_parent up kinds.File = kinds.File
with_parent up (kinds.Link text) = kinds.Link text

-- the root is its own parent, and another directory's is the one that holds its entry
abbrev pub parent_in : Tree → ℕ → Option ℕ
parent_in t n = if n == 1 then Some 1 else holder_of t n

-- a directory's node keeps the number that its dot-dot leads to, if a directory lives, and a link's text has a path
pub record IsNodeAt (t : Tree) (n : ℕ) (node : rust_node.Node) : Type 0 where
  pub parent : parent_kept node ≡ option_map (λ place. place.0) (entry_of t n Parent)
  pub directory : IfSome (parent_kept node) (λ up. IsTrue (is_live_directory t up))
  pub path : IfSome (text_in (node_shown node)) (λ text. fault_of text ≡ None)

-- the tree is well formed, and each directory keeps its parent
pub record IsSound (entries : List (Spot × ℕ)) (nodes : List (ℕ × rust_node.Node)) (next : ℕ) : Type 0 where
  pub well : IsWellFormed (tree_in entries nodes next)
  pub parents : (n up : ℕ) → node_at nodes n ≡ Some (kinds.Dir up) → parent_in (tree_in entries nodes next) n ≡ Some up
