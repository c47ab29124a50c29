-- Inodes under their numbers, each with the names in it, as the entries and nodes of a tree.
use Rattle.std.specs.Prelude.{ℕ, ◌-◌, ◌+◌, List, [], ◌∷◌, map, not, Option, Some, None, option_map, option_and_then, unwrap_or, ◌==◌, if◌then◌else◌}
use Rattle.std.specs.FinMap.Entries.{put, where_key}
use Rattle.std.specs.FinMap.Entries.{find as lookup}
use Rattle.std.specs.Ordering.{nat_cmp, eq_by_cmp}
use Rattle.dc_plain.specs.Trees.{Tree, Spot, spot_cmp}
use Rattle.dc_store.specs.Maps.{tree_in, with_parent}
use Rattle.dc_store.specs.Names.{name_cmp, without_name}
use Rattle.dc_plain.specs.Spots.{spot_at}
use Rattle.dc_store.specs.declared.inode.Inode.{Inode}
use Rattle.dc_store.specs.declared.node.Node as rust_node

-- the entries with those of a directory put in
abbrev pub with_names : ℕ → List (List ℕ × ℕ) → List (Spot × ℕ) → List (Spot × ℕ)
with_names d [] entries = entries
with_names d (x ∷ xs) entries = put spot_cmp (spot_at d x.0) x.1 (with_names d xs entries)

-- the entries of all inodes, in order
abbrev pub entries_of : List (ℕ × Inode) → List (Spot × ℕ)
entries_of [] = []
entries_of (e ∷ es) = with_names e.0 e.1.names (entries_of es)

abbrev pub node_kept : ℕ × Inode → ℕ × rust_node.Node
node_kept e = (e.0, e.1.node)

abbrev pub nodes_of : List (ℕ × Inode) → List (ℕ × rust_node.Node)
nodes_of inodes = map node_kept inodes

-- the tree of the inodes and the next number
abbrev pub tree_of : List (ℕ × Inode) → ℕ → Tree
tree_of inodes next = tree_in (entries_of inodes) (nodes_of inodes) next

abbrev pub inode_at : List (ℕ × Inode) → ℕ → Option Inode
inode_at inodes n = lookup nat_cmp n inodes

-- how many entries lead to a number by the count that is kept, 0 if nothing lives
abbrev pub count_kept : List (ℕ × Inode) → ℕ → ℕ
count_kept inodes n = unwrap_or (option_map (λ inode. inode.count) (inode_at inodes n)) 0

abbrev pub without_inode : ℕ → List (ℕ × Inode) → List (ℕ × Inode)
without_inode n = where_key nat_cmp (λ other. not (eq_by_cmp nat_cmp n other))

-- with another inode under a number at which one is
abbrev pub changed : ℕ → (Inode → Inode) → List (ℕ × Inode) → List (ℕ × Inode)
changed n f inodes = elim (inode_at inodes n) [ None ↦ inodes | Some inode ↦ put nat_cmp n (f inode) inodes ]

abbrev pub with_name : List ℕ → ℕ → Inode → Inode
with_name name n inode = record inode { names = put name_cmp name n inode.names }

abbrev pub less_name : List ℕ → Inode → Inode
less_name name inode = record inode { names = without_name name inode.names }

abbrev pub one_up : Inode → Inode
one_up inode = record inode { count = inode.count + 1 }

abbrev pub one_down : Inode → Inode
one_down inode = record inode { count = inode.count - 1 }

abbrev pub held_by : ℕ → Inode → Inode
held_by parent inode = record inode { node = with_parent parent inode.node }

-- what lost an entry has a name less, and goes if that was its last
abbrev pub inodes_after : Option ℕ → List (ℕ × Inode) → List (ℕ × Inode)
inodes_after None inodes = inodes
inodes_after (Some n) inodes =
    let less = changed n one_down inodes in
    if count_kept less n == 0 then without_inode n less else less

-- where a name in a directory leads
abbrev pub led_to : List (ℕ × Inode) → ℕ → List ℕ → Option ℕ
led_to inodes d name = option_and_then (λ inode. lookup name_cmp name inode.names) (inode_at inodes d)
