-- Trees that the calls can make.
use Rattle.std.specs.Prelude.{◌≡◌, ◌≢◌, ℕ, zero, suc, ◌==◌, ◌||◌, ◌<◌, ◌≤◌, length, Bool, Some, is_some, is_ok, IsTrue}
use Rattle.std.specs.Ordering.{nat_cmp}
use Rattle.std.specs.List.{AllByRecursion}
use Rattle.std.specs.FinMap.Entries.{is_sorted}
use Rattle.dc_names.specs.declared.limits.TheConstants.{MOST_NAMES, NUMBER_LIMIT}
use Rattle.dc_names.specs.Bytes.{is_name}
use Rattle.dc_names.specs.Paths.{path_of}
use Rattle.dc_plain.specs.Trees.{spot_cmp, inode_of, Tree, Spot, Inode, is_live_directory, names_of, holder_of, if_held}
use Rattle.dc_plain.specs.Trees.Inode.{Directory, Regular, Symbolic}

-- going up from d one comes to the root within this many steps
abbrev pub comes_up : ℕ → Tree → ℕ → Bool
comes_up zero t d = d == 1
comes_up (suc steps) t d = d == 1 || if_held (holder_of t d) (λ up. comes_up steps t up)

-- by its kind, how many entries lead to an inode; its parents lead to the root, or its text has a path
abbrev pub IsReached : Tree → ℕ → Inode → Type 0
IsReached t n Directory = (n ≢ 1 → names_of t n ≡ 1) × (steps : ℕ) × IsTrue (comes_up steps t n)
IsReached t n Regular = (1 ≤ names_of t n) × (names_of t n ≤ MOST_NAMES)
IsReached t n (Symbolic text) = (1 ≤ names_of t n) × (names_of t n ≤ MOST_NAMES) × IsTrue (is_ok (path_of text))

-- an entry has a name, stands in a live directory and leads to what lives
pub record Stands (t : Tree) (e : Spot × ℕ) : Type 0 where
  pub named : IsTrue (is_name e.0.name)
  pub held : IsTrue (is_live_directory t e.0.dir)
  pub leads : IsTrue (is_some (inode_of t e.1))

-- an inode has a number below the next one, and is reached
pub record Lives (t : Tree) (n : ℕ) (inode : Inode) : Type 0 where
  pub made : n < t.next
  pub counted : 0 < n
  pub reached : IsReached t n inode

-- the tree that calls can make: the root, one holder for each other directory, a name for each other inode,
-- entries in live directories, numbers below the next one
pub record IsWellFormed (t : Tree) : Type 0 where
  pub entries_in_order : IsTrue (is_sorted spot_cmp t.entries)
  pub inodes_in_order : IsTrue (is_sorted nat_cmp t.inodes)
  pub root_is : inode_of t 1 ≡ Some Directory
  pub no_entry_leads_to_root : names_of t 1 ≡ 0
  pub entries : AllByRecursion (Stands t) t.entries
  pub inodes : (n : ℕ) (inode : Inode) → inode_of t n ≡ Some inode → Lives t n inode
  pub next_is : t.next ≤ NUMBER_LIMIT

-- no more inodes live than are allowed
abbrev pub IsWithin : ℕ → Tree → Type 0
IsWithin limit t = length t.inodes ≤ limit
