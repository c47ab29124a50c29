-- What an effect makes of the entries, the inodes, the holders of directories and the counts of names. In each, u is the tree after it.
use Rattle.std.specs.Prelude.{◌≡◌, ◌≢◌, ℕ, ◌+◌, List, None, Some, IsTrue}
use Rattle.dc_plain.specs.Effects.{cleared}
use Rattle.dc_plain.specs.Spots.{spot_at}
use Rattle.dc_plain.specs.Trees.{Tree, Spot, Inode, entry_number, inode_of, holder_of, names_of, is_live_directory}

-- a new inode, with its entry
pub record MakesInode (t : Tree) (d : ℕ) (name : List ℕ) (inode : Inode) (u : Tree) : Type 0 where
  pub here : entry_number u (spot_at d name) ≡ Some t.next
  pub elsewhere : (spot : Spot) → spot ≢ spot_at d name → entry_number u spot ≡ entry_number t spot
  pub made : inode_of u t.next ≡ Some inode
  pub kept : (n : ℕ) → n ≢ t.next → inode_of u n ≡ inode_of t n
  pub held : holder_of u t.next ≡ Some d
  pub still_held : (n : ℕ) → n ≢ t.next → holder_of u n ≡ holder_of t n
  pub named : names_of u t.next ≡ 1
  pub still_named : (n : ℕ) → n ≢ t.next → names_of u n ≡ names_of t n

-- a further name of n
pub record AddsName (t : Tree) (d : ℕ) (name : List ℕ) (n : ℕ) (u : Tree) : Type 0 where
  pub here : entry_number u (spot_at d name) ≡ Some n
  pub elsewhere : (spot : Spot) → spot ≢ spot_at d name → entry_number u spot ≡ entry_number t spot
  pub kept : (q : ℕ) → inode_of u q ≡ inode_of t q
  pub still_held : (q : ℕ) → q ≢ n → holder_of u q ≡ holder_of t q
  pub named : names_of u n ≡ names_of t n + 1
  pub still_named : (q : ℕ) → q ≢ n → names_of u q ≡ names_of t q

-- a name of n goes, and with the last one n
pub record LosesName (t : Tree) (d : ℕ) (name : List ℕ) (n : ℕ) (u : Tree) : Type 0 where
  pub gone : entry_number u (spot_at d name) ≡ None
  pub elsewhere : (spot : Spot) → spot ≢ spot_at d name → entry_number u spot ≡ entry_number t spot
  pub last : names_of u n ≡ 0 → inode_of u n ≡ None
  pub not_last : names_of u n ≢ 0 → inode_of u n ≡ inode_of t n
  pub kept : (q : ℕ) → q ≢ n → inode_of u q ≡ inode_of t q
  pub still_held : (q : ℕ) → q ≢ n → holder_of u q ≡ holder_of t q
  pub named : names_of u n + 1 ≡ names_of t n
  pub still_named : (q : ℕ) → q ≢ n → names_of u q ≡ names_of t q

-- the tree without what stands at a name: as it is if nothing stands there
pub record Clears (t : Tree) (d : ℕ) (name : List ℕ) (u : Tree) : Type 0 where
  pub free : entry_number u (spot_at d name) ≡ None
  pub alone : entry_number t (spot_at d name) ≡ None → u ≡ t
  pub over : (m : ℕ) → entry_number t (spot_at d name) ≡ Some m → LosesName t d name m u

-- n at a new name in place of an old one. What stood at the new name is gone, and else holders and counts are as they were then
pub record MovesName (t : Tree) (from : ℕ) (old : List ℕ) (to : ℕ) (new : List ℕ) (n : ℕ) (u : Tree) : Type 0 where
  pub gone : entry_number u (spot_at from old) ≡ None
  pub here : entry_number u (spot_at to new) ≡ Some n
  pub elsewhere : (spot : Spot) → spot ≢ spot_at from old → spot ≢ spot_at to new → entry_number u spot ≡ entry_number t spot
  pub clears : Clears t to new (cleared t to new)
  pub kept : (q : ℕ) → inode_of u q ≡ inode_of (cleared t to new) q
  pub held : IsTrue (is_live_directory t n) → holder_of u n ≡ Some to
  pub still_held : (q : ℕ) → q ≢ n → holder_of u q ≡ holder_of (cleared t to new) q
  pub still_named : (q : ℕ) → names_of u q ≡ names_of (cleared t to new) q

-- two inodes at each other's names. The counts of names are as they were, and a directory is held where it stands now
pub record SwapsNames (t : Tree) (a : Spot) (m : ℕ) (b : Spot) (n : ℕ) (u : Tree) : Type 0 where
  pub first : entry_number u a ≡ Some n
  pub second : entry_number u b ≡ Some m
  pub elsewhere : (spot : Spot) → spot ≢ a → spot ≢ b → entry_number u spot ≡ entry_number t spot
  pub kept : (q : ℕ) → inode_of u q ≡ inode_of t q
  pub held : IsTrue (is_live_directory t m) → holder_of u m ≡ Some b.dir
  pub held_too : IsTrue (is_live_directory t n) → holder_of u n ≡ Some a.dir
  pub still_held : (q : ℕ) → q ≢ m → q ≢ n → holder_of u q ≡ holder_of t q
  pub still_named : (q : ℕ) → names_of u q ≡ names_of t q
