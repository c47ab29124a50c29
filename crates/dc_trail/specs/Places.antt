-- The trail of a path on a tree, in a caller's places.
use Rattle.std.specs.Prelude.{◌≡◌, ℕ, ◌≤◌, List, length, take}
use Rattle.dc_names.specs.Paths.{path_in}
use Rattle.dc_plain.specs.declared.call.Follow.{Follow}
use Rattle.dc_plain.specs.Trees.{Tree, told_of}
use Rattle.dc_trail.specs.Questions.{trail_of}

-- the first of these places have the trail of a path on a tree
pub record HasTrail (t : Tree) (base : ℕ) (text : List ℕ) (how : Follow) (places : List ℕ) (many : ℕ) : Type 0 where
  pub few : many ≤ length places
  pub trail : take many places ≡ trail_of (told_of t) base (path_in text) how
