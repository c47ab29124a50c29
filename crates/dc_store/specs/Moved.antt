-- What may stand at another name, and the tree that a move there makes.
use Rattle.std.specs.Prelude.{ℕ}
use Rattle.dc_plain.specs.Conditions as plain
use Rattle.dc_plain.specs.Effects as effects
use Rattle.dc_plain.specs.Trees.{Tree, Spot}

-- n may stand at the new name
abbrev pub CanStandAt : Tree → Spot → ℕ → Type 0
CanStandAt t new n = plain.CanStandAt t new.dir new.name n

-- n at the new name in place of the old one and of what stood there
abbrev pub tree_moved : Tree → Spot → Spot → ℕ → Tree
tree_moved t old new n = effects.tree_moved t old.dir old.name new.dir new.name n
