-- When an effect may be made of a well-formed tree, so that it stays well formed.
use Rattle.std.specs.Prelude.{◌≡◌, ◌≢◌, ℕ, ◌<◌, ◌&&◌, List, Bool, false, not, length, None, Some, is_some, IfSome, IsTrue}
use Rattle.dc_names.specs.Bytes.{is_empty, is_name}
use Rattle.dc_names.specs.Paths.{fault_of}
use Rattle.dc_names.specs.declared.limits.TheConstants.{MOST_NAMES, NUMBER_LIMIT}
use Rattle.dc_plain.specs.Operations.{is_beneath}
use Rattle.dc_plain.specs.Spots.{spot_at}
use Rattle.dc_plain.specs.Trees.{Tree, Spot, Inode, entry_number, inode_of, is_live_directory, names_in, names_of}
use Rattle.dc_plain.specs.Trees.Inode.{Directory, Regular, Symbolic}

-- a name in a live directory, under which no entry stands
pub record IsFree (t : Tree) (d : ℕ) (name : List ℕ) : Type 0 where
  pub held : IsTrue (is_live_directory t d)
  pub free : entry_number t (spot_at d name) ≡ None
  pub named : IsTrue (is_name name)

-- a link's text has no fault
abbrev pub HasPath : Inode → Type 0
HasPath Directory = Unit {0}
HasPath Regular = Unit {0}
HasPath (Symbolic text) = fault_of text ≡ None

-- a new inode gets a number below the limit
pub record CanMake (t : Tree) (inode : Inode) : Type 0 where
  pub low : t.next < NUMBER_LIMIT
  pub path : HasPath inode

-- what may have a further name: a file or a link with fewer names than are allowed
pub record CanBeNamed (t : Tree) (n : ℕ) : Type 0 where
  pub lives : IsTrue (is_some (inode_of t n))
  pub no_directory : is_live_directory t n ≡ false
  pub few : names_of t n < MOST_NAMES

-- a directory in which entries stand
abbrev pub is_full_directory : Tree → ℕ → Bool
is_full_directory t n = is_live_directory t n && not (is_empty (names_in t n))

-- an entry leads to n, in which no entry stands
pub record CanLose (t : Tree) (d : ℕ) (name : List ℕ) (n : ℕ) : Type 0 where
  pub leads : entry_number t (spot_at d name) ≡ Some n
  pub empty : IsTrue (not (is_full_directory t n))

-- n may stand at the new name: in a live directory that isn't beneath it, over nothing, or over another inode that
-- is no directory in which entries stand
pub record CanStandAt (t : Tree) (to : ℕ) (new : List ℕ) (n : ℕ) : Type 0 where
  pub directory : IsTrue (is_live_directory t to)
  pub apart : (is_live_directory t n && is_beneath (length t.inodes) t to n) ≡ false
  pub other : entry_number t (spot_at to new) ≢ Some n
  pub gives_way : IfSome (entry_number t (spot_at to new)) (λ m. IsTrue (not (is_full_directory t m)))

-- an entry leads to n, and n may stand at the new name
pub record CanMove (t : Tree) (from : ℕ) (old : List ℕ) (to : ℕ) (new : List ℕ) (n : ℕ) : Type 0 where
  pub leads : entry_number t (spot_at from old) ≡ Some n
  pub stands : CanStandAt t to new n
  pub named : IsTrue (is_name new)

-- two entries lead to two inodes, and neither is a directory that is above the other's name
pub record CanSwap (t : Tree) (a : Spot) (m : ℕ) (b : Spot) (n : ℕ) : Type 0 where
  pub first : entry_number t a ≡ Some m
  pub second : entry_number t b ≡ Some n
  pub two : m ≢ n
  pub apart : (is_live_directory t m && is_beneath (length t.inodes) t b.dir m) ≡ false
  pub apart_too : (is_live_directory t n && is_beneath (length t.inodes) t a.dir n) ≡ false
