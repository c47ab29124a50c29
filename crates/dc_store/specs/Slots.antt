-- Inodes in the slots of a slab, each under the slab key that its number is kept with.
use Rattle.std.specs.Prelude.{◌≡◌, ℕ, ◌<◌, ◌%◌, List, [], map, length, Option, Some, is_some, unwrap_or, IfSome, IsTrue, if◌then◌else◌}
use Rattle.std.specs.BTreeMap.{is_at}
use Rattle.std.specs.List.{slice_index_or}
use Rattle.std.specs.List.Sorted.{IsStrictlySortedBy}
use Rattle.std.specs.Map.{keys_of, lookup}
use Rattle.std.specs.Ordering.{nat_cmp}
use Rattle.slab.specs.Slab.{Slab, slab_len}
use Rattle.slab.specs.Slab.{get as slot}
use Rattle.dc_store.specs.declared.inode.Inode.{Inode}
use Rattle.dc_store.specs.declared.slab_keys.TheConstants.{PLACES}
use Rattle.dc_store.specs.declared.node.Node.TheVariants as kinds

-- the slab key that a number is kept with
abbrev pub key_of : List (ℕ × ℕ) → ℕ → Option ℕ
key_of keys n = lookup (is_at (nat_cmp n)) keys

-- a number has this key, or none, and each other one the key that it had
abbrev pub HasInstead : ℕ → Option ℕ → List (ℕ × ℕ) → List (ℕ × ℕ) → Type 0
HasInstead n key was keys = (q : ℕ) → key_of keys q ≡ (if is_at (nat_cmp n) q then key else key_of was q)

-- the place where the key of a number is noted
abbrev pub place_of : ℕ → ℕ
place_of n = n % PLACES

-- what is noted in a place is a number of that place, with its key
abbrev pub IsNote : List (ℕ × ℕ) → ℕ → Option (ℕ × ℕ) → Type 0
IsNote keys place noted = IfSome noted (λ p. (place_of p.0 ≡ place) × (key_of keys p.0 ≡ Some p.1))

abbrev pub AreNoted : List (Option (ℕ × ℕ)) → List (ℕ × ℕ) → Type 0
AreNoted recent keys = (place : ℕ) (d : Option (ℕ × ℕ)) → place < length recent → IsNote keys place (slice_index_or recent place d)

-- the inode in a slot, or an empty file if there is none
abbrev pub inode_in : Option Inode → Inode
inode_in o = unwrap_or o (record { node = kinds.File; names = []; count = 0 })

-- the inodes of the numbers, in order
abbrev pub inodes_in : Slab Inode → List (ℕ × ℕ) → List (ℕ × Inode)
inodes_in slab keys = map (λ e. (e.0, inode_in (slot slab e.1))) keys

-- each number has a slot of its own with an inode in it, and no other slot has one
pub record IsKept (slab : Slab Inode) (keys : List (ℕ × ℕ)) : Type 0 where
  pub ordered : IsStrictlySortedBy nat_cmp (keys_of keys)
  pub filled : (n key : ℕ) → key_of keys n ≡ Some key → IsTrue (is_some (slot slab key))
  pub apart : (m n key : ℕ) → key_of keys m ≡ Some key → key_of keys n ≡ Some key → m ≡ n
  pub no_more : slab_len slab ≡ length keys
