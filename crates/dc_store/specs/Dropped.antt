-- What may lose an entry.
use Rattle.std.specs.Prelude.{◌≡◌, not, IfSome, IsSomeAnd, IsTrue}
use Rattle.dc_plain.specs.Conditions.{is_full_directory}
use Rattle.dc_plain.specs.Effects.{without_entry}
use Rattle.dc_plain.specs.Trees.{Tree, Spot, entry_number}

-- the entry is there, and leads to no directory in which entries stand
abbrev pub CanDrop : Tree → Spot → Type 0
CanDrop t spot = IsSomeAnd (entry_number t spot) (λ n. IsTrue (not (is_full_directory t n)))

-- the tree afterwards is that without an entry, and without what lost its last name by that
abbrev pub Drops : Tree → Spot → Tree → Type 0
Drops was spot t = IfSome (entry_number was spot) (λ n. t ≡ without_entry was spot.dir spot.name n)
