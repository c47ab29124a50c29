-- What the steps of the slow machine make of its rows.
use Rattle.std.specs.Prelude.{◌≡◌, ℕ, List, map, Option}
use Rattle.std.specs.FinMap.Entries.{put}
use Rattle.std.specs.Global.{Vec}
use Rattle.std.specs.Ordering.{nat_cmp}
use Rattle.dc_plain.specs.declared.rows.Entry as rust_entry
use Rattle.dc_plain.specs.declared.rows.Inode as rust_inode
use Rattle.dc_plain.specs.declared.rows.Node as rust_node
use Rattle.dc_plain.specs.declared.spot.Spot as rust_spot
use Rattle.dc_plain.specs.Effects.{without_entry}
use Rattle.dc_plain.specs.Facts.{Target}
use Rattle.dc_plain.specs.Plain.{entry_shown, inode_shown, node_shown, tree_in}
use Rattle.dc_plain.specs.Plans.{without_moved}
use Rattle.dc_plain.specs.Spots.{spot_at, spot_shown}
use Rattle.dc_plain.specs.Trees.{Spot, spot_cmp}

-- the entries that rows stand for
abbrev pub entries_in : List rust_entry.Entry → List (Spot × ℕ)
entries_in rows = map entry_shown rows

-- the new rows are the old ones with an entry that leads there, in place of one that stood there
abbrev pub PutsEntry : ℕ → List ℕ → ℕ → List rust_entry.Entry → List rust_entry.Entry → Type 0
PutsEntry dir name target old new = entries_in new ≡ put spot_cmp (spot_at dir name) target (entries_in old)

-- the new rows are the old ones with an inode under a number
abbrev pub PutsInode : ℕ → rust_node.Node → List rust_inode.Inode → List rust_inode.Inode → Type 0
PutsInode number node old new = map inode_shown new ≡ put nat_cmp number (node_shown node) (map inode_shown old)

-- the tree of the rows, with any next number, is without a name of an inode, and without the inode if that was its last
abbrev pub TakesName : Vec rust_entry.Entry → Vec rust_inode.Inode → rust_spot.Spot → ℕ → Vec rust_entry.Entry → Vec rust_inode.Inode → Type 0
TakesName entries inodes spot number left living = (next : ℕ)
    → tree_in left.items living.items next ≡ without_entry (tree_in entries.items inodes.items next) spot.dir spot.name.bytes.now number

-- the tree of the rows, with any next number, is without the old name, and without what was found at the new one
abbrev pub MakesWay : Vec rust_entry.Entry → Vec rust_inode.Inode → rust_spot.Spot → rust_spot.Spot → Option Target → Vec rust_entry.Entry → Vec rust_inode.Inode → Type 0
MakesWay entries inodes from to there left living = (next : ℕ)
    → tree_in left.items living.items next ≡ without_moved (tree_in entries.items inodes.items next) (spot_shown from) (spot_shown to) there
