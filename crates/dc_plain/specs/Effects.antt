-- What a change makes of a tree.
use Rattle.std.specs.Prelude.{ℕ, ◌+◌, List, ◌==◌, Option, Some, None, if◌then◌else◌}
use Rattle.std.specs.Ordering.{nat_cmp}
use Rattle.std.specs.FinMap.Entries.{put}
use Rattle.dc_plain.specs.Facts.{Target}
use Rattle.dc_plain.specs.Facts.Label.{Entry}
use Rattle.dc_plain.specs.Trees.{Tree, Spot, Inode, spot_cmp, entry_of, without_spot, without_number, names_of}

-- with an entry that leads to n, in place of one that stands there
abbrev pub with_entry_for : Tree → ℕ → List ℕ → ℕ → Tree
with_entry_for t d name n = record t { entries = put spot_cmp (record { dir = d; name = name }) n t.entries }

-- a new inode under the next number, with its entry
abbrev pub with_new : Tree → ℕ → List ℕ → Inode → Tree
with_new t d name inode = record {
  entries = put spot_cmp (record { dir = d; name = name }) t.next t.entries;
  inodes = put nat_cmp t.next inode t.inodes;
  next = t.next + 1;
}

-- without an entry for n, and without n if that was its last
abbrev pub without_entry : Tree → ℕ → List ℕ → ℕ → Tree
without_entry t d name n =
    let rest : Tree = record t { entries = without_spot (record { dir = d; name = name }) t.entries } in
    if names_of rest n == 0 then record rest { inodes = without_number n rest.inodes } else rest

-- without an entry, whatever it leads to
abbrev pub without_entry_alone : Tree → ℕ → List ℕ → Tree
without_entry_alone t d name = record t { entries = without_spot (record { dir = d; name = name }) t.entries }

-- without what stood there
abbrev pub without_there : Tree → ℕ → List ℕ → Option Target → Tree
without_there t d name None = t
without_there t d name (Some place) = without_entry t d name place.0

-- without what stands at a name, if anything does
abbrev pub cleared : Tree → ℕ → List ℕ → Tree
cleared t d name = without_there t d name (entry_of t d (Entry name))

-- n at the new name in place of the old one and of what stood there
abbrev pub tree_moved : Tree → ℕ → List ℕ → ℕ → List ℕ → ℕ → Tree
tree_moved t from old to new n = with_entry_for (without_entry_alone (cleared t to new) from old) to new n

-- m, which stands at a, and n, which stands at b, at each other's names
abbrev pub tree_swapped : Tree → Spot → ℕ → Spot → ℕ → Tree
tree_swapped t a m b n = with_entry_for (with_entry_for t a.dir a.name n) b.dir b.name m
