-- The effects keep a tree well formed, and change what the facts of each effect say and nothing else.
use Rattle.std.specs.Prelude.{ℕ, List}
use Rattle.dc_plain.specs.Conditions.{IsFree, CanMake, CanBeNamed, CanLose, CanMove, CanSwap}
use Rattle.dc_plain.specs.EffectFacts.{MakesInode, AddsName, LosesName, MovesName, SwapsNames}
use Rattle.dc_plain.specs.Effects.{with_new, with_entry_for, without_entry, tree_moved, tree_swapped}
use Rattle.dc_plain.specs.IsWellFormed.{IsWellFormed}
use Rattle.dc_plain.specs.Trees.{Tree, Spot, Inode}

abbrev pub NewKeepsWellFormed : Type 0
NewKeepsWellFormed = (t : Tree) (d : ℕ) (name : List ℕ) (inode : Inode) → IsWellFormed t → IsFree t d name → CanMake t inode → IsWellFormed (with_new t d name inode)

abbrev pub FurtherNameKeepsWellFormed : Type 0
FurtherNameKeepsWellFormed = (t : Tree) (d : ℕ) (name : List ℕ) (n : ℕ) → IsWellFormed t → IsFree t d name → CanBeNamed t n → IsWellFormed (with_entry_for t d name n)

abbrev pub LostNameKeepsWellFormed : Type 0
LostNameKeepsWellFormed = (t : Tree) (d : ℕ) (name : List ℕ) (n : ℕ) → IsWellFormed t → CanLose t d name n → IsWellFormed (without_entry t d name n)

abbrev pub MoveKeepsWellFormed : Type 0
MoveKeepsWellFormed = (t : Tree) (from : ℕ) (old : List ℕ) (to : ℕ) (new : List ℕ) (n : ℕ) → IsWellFormed t → CanMove t from old to new n → IsWellFormed (tree_moved t from old to new n)

abbrev pub SwapKeepsWellFormed : Type 0
SwapKeepsWellFormed = (t : Tree) (a : Spot) (m : ℕ) (b : Spot) (n : ℕ) → IsWellFormed t → CanSwap t a m b n → IsWellFormed (tree_swapped t a m b n)

abbrev pub NewChanges : Type 0
NewChanges = (t : Tree) (d : ℕ) (name : List ℕ) (inode : Inode) → IsWellFormed t → IsFree t d name → MakesInode t d name inode (with_new t d name inode)

abbrev pub FurtherNameChanges : Type 0
FurtherNameChanges = (t : Tree) (d : ℕ) (name : List ℕ) (n : ℕ) → IsWellFormed t → IsFree t d name → AddsName t d name n (with_entry_for t d name n)

abbrev pub LostNameChanges : Type 0
LostNameChanges = (t : Tree) (d : ℕ) (name : List ℕ) (n : ℕ) → IsWellFormed t → CanLose t d name n → LosesName t d name n (without_entry t d name n)

abbrev pub MoveChanges : Type 0
MoveChanges = (t : Tree) (from : ℕ) (old : List ℕ) (to : ℕ) (new : List ℕ) (n : ℕ) → IsWellFormed t → CanMove t from old to new n → MovesName t from old to new n (tree_moved t from old to new n)

abbrev pub SwapChanges : Type 0
SwapChanges = (t : Tree) (a : Spot) (m : ℕ) (b : Spot) (n : ℕ) → IsWellFormed t → CanSwap t a m b n → SwapsNames t a m b n (tree_swapped t a m b n)
