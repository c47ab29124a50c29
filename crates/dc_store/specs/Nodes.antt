-- What a step leaves of the nodes under their numbers.
use Rattle.std.specs.Prelude.{◌≡◌, ℕ, ◌==◌, List, Some, option_map, if◌then◌else◌}
use Rattle.dc_store.specs.Maps.{node_at, with_parent}
use Rattle.dc_store.specs.declared.node.Node as rust_node

-- what stands under a number is written a parent, if it is a directory, and no other node is another
abbrev pub WritesParent : ℕ → ℕ → List (ℕ × rust_node.Node) → List (ℕ × rust_node.Node) → Type 0
WritesParent n up before after = (q : ℕ) → node_at after q ≡ (if q == n then option_map (with_parent up) (node_at before q) else node_at before q)

-- each node of some stands under its number among others too
abbrev pub AreAmong : List (ℕ × rust_node.Node) → List (ℕ × rust_node.Node) → Type 0
AreAmong nodes others = (q : ℕ) (node : rust_node.Node) → node_at nodes q ≡ Some node → node_at others q ≡ Some node
