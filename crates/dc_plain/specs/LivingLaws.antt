-- What a path, a name or a holder leads to lives, and other facts of every well-formed tree.
use Rattle.std.specs.Prelude.{◌≡◌, ◌≢◌, ◌↔◌, ℕ, ◌-◌, ◌<◌, List, false, None, Some, Ok, is_some, IsTrue}
use Rattle.std.specs.Ordering.{eq_by_cmp}
use Rattle.dc_names.specs.Paths.{Path}
use Rattle.dc_plain.specs.declared.call.Follow.{Follow}
use Rattle.dc_plain.specs.Facts.{Target}
use Rattle.dc_plain.specs.Facts.Label.{Entry}
use Rattle.dc_plain.specs.IsWellFormed.{IsWellFormed}
use Rattle.dc_plain.specs.Operations.{is_beneath}
use Rattle.dc_plain.specs.Places.{Where}
use Rattle.dc_plain.specs.Refusals.{place_on, walk_on, where_on}
use Rattle.dc_plain.specs.Requests.{Request}
use Rattle.dc_plain.specs.Runs.{Alters, alters, same_tree}
use Rattle.dc_plain.specs.Spots.{spot_at}
use Rattle.dc_plain.specs.Trees.{Tree, Spot, spot_cmp, entry_number, entry_of, holder_of, inode_of, is_live_directory, names_of, target_at}

-- where a text leads, that inode lives, of that kind
abbrev pub WalksLeadToTheLiving : Type 0
WalksLeadToTheLiving = (t : Tree) (base : ℕ) (text : List ℕ) (how : Follow) (target : Target) → IsWellFormed t → walk_on t base text how ≡ Ok target → target_at t target.0 ≡ Some target

-- all parts of a path but the last lead to a live directory
abbrev pub PlacesAreInLiveDirectories : Type 0
PlacesAreInLiveDirectories = (t : Tree) (base : ℕ) (path : Path) (at : Where) → IsWellFormed t → place_on t base path ≡ Ok at → IsTrue (is_live_directory t at.dir)

abbrev pub TextsAreInLiveDirectories : Type 0
TextsAreInLiveDirectories = (t : Tree) (base : ℕ) (text : List ℕ) (at : Where) → IsWellFormed t → where_on t base text ≡ Ok at → IsTrue (is_live_directory t at.dir)

-- an entry stands in a live directory and leads to an inode that lives and isn't the root
pub record LeadsToTheLiving (t : Tree) (spot : Spot) (n : ℕ) : Type 0 where
  pub held : IsTrue (is_live_directory t spot.dir)
  pub lives : IsTrue (is_some (inode_of t n))
  pub not_root : n ≢ 1

abbrev pub NamesLeadToTheLiving : Type 0
NamesLeadToTheLiving = (t : Tree) (spot : Spot) (n : ℕ) → IsWellFormed t → entry_number t spot ≡ Some n → LeadsToTheLiving t spot n

-- so a name that leads nowhere has no entry
abbrev pub NamesLeadSomewhere : Type 0
NamesLeadSomewhere = (t : Tree) (d : ℕ) (name : List ℕ) → IsWellFormed t → entry_of t d (Entry name) ≡ None → entry_number t (spot_at d name) ≡ None

-- the holder of an inode is a live directory
abbrev pub HoldersAreLiveDirectories : Type 0
HoldersAreLiveDirectories = (t : Tree) (n up : ℕ) → IsWellFormed t → holder_of t n ≡ Some up → IsTrue (is_live_directory t up)

-- each directory but the root has one name, and so a holder
pub record HasOneName (t : Tree) (n : ℕ) : Type 0 where
  pub named : names_of t n ≡ 1
  pub held : (up : ℕ) × (holder_of t n ≡ Some up)

abbrev pub DirectoriesHaveOneName : Type 0
DirectoriesHaveOneName = (t : Tree) (n : ℕ) → IsWellFormed t → IsTrue (is_live_directory t n) → n ≢ 1 → HasOneName t n

-- nothing lives under the next number
abbrev pub NextNumberIsUnused : Type 0
NextNumberIsUnused = (t : Tree) → IsWellFormed t → inode_of t t.next ≡ None

-- a climb from d in search of n ends where nothing holds d
abbrev pub ClimbsEndUnheld : Type 0
ClimbsEndUnheld = (steps : ℕ) (t : Tree) (d n : ℕ) → 0 < steps → d ≢ n → d ≢ 1 → holder_of t d ≡ None → is_beneath steps t d n ≡ false

-- and else goes on with what holds d
abbrev pub ClimbsGoByHolders : Type 0
ClimbsGoByHolders = (steps : ℕ) (t : Tree) (d n up : ℕ) → 0 < steps → d ≢ n → d ≢ 1 → holder_of t d ≡ Some up → is_beneath (steps - 1) t up n ≡ is_beneath steps t d n

-- the order of names in directories is total, and ties if they are one
abbrev pub SpotsTie : Type 0
SpotsTie = (a b : Spot) → IsTrue (eq_by_cmp spot_cmp a b) ↔ (a ≡ b)

-- the test tells whether a call makes another tree
abbrev pub AltersDecides : Type 0
AltersDecides = (limit : ℕ) (t : Tree) (request : Request) → IsTrue (alters limit t request) ↔ Alters limit t request

-- the test tells whether two trees are one
abbrev pub SameTreeDecides : Type 0
SameTreeDecides = (t u : Tree) → IsTrue (same_tree t u) ↔ (t ≡ u)
