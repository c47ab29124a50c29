-- The tree that entries and nodes stand for.
use Rattle.std.proofs.Common.{◌≡◌, ℕ, List, Some, refl, ap, sym, ◌∙◌, subst}
use Rattle.dc_plain.specs.IsWellFormed.{IsWellFormed}
use Rattle.dc_plain.specs.Trees.{Tree, Spot, inode_of}
use Rattle.dc_store.specs.Maps.{node_shown, node_at, parent_in, tree_in, IsSound}
use Rattle.dc_store.specs.declared.node.Node as rust_node
use Rattle.dc_store.specs.declared.node.Node.TheVariants as kinds
use Rattle.dc_store.proofs.Nodes.{shown_as}

-- they stand for the tree, and are sound
pub record Shows (entries : List (Spot × ℕ)) (nodes : List (ℕ × rust_node.Node)) (next : ℕ) (t : Tree) : Type 0 where
  pub shows : tree_in entries nodes next ≡ t
  pub well : IsWellFormed t
  pub parents : (n up : ℕ) → node_at nodes n ≡ Some (kinds.Dir up) → parent_in t n ≡ Some up

module _ {entries : List (Spot × ℕ)} {nodes : List (ℕ × rust_node.Node)} {next : ℕ} {t : Tree} where
  pub shows_now : IsSound entries nodes next → tree_in entries nodes next ≡ t → Shows entries nodes next t
  shows_now sound is = subst (Shows entries nodes next) is (record { shows = refl; well = sound.well; parents = sound.parents })

  pub sound_as : Shows entries nodes next t → IsSound entries nodes next
  sound_as now = record { well = subst IsWellFormed (sym now.shows) now.well; parents = λ n up e. ap (λ (u : Tree). parent_in u n) now.shows ∙ now.parents n up e }

  pub lives_as : Shows entries nodes next t → (n : ℕ) (node : rust_node.Node) → node_at nodes n ≡ Some node → inode_of t n ≡ Some (node_shown node)
  lives_as now n node e = ap (λ (u : Tree). inode_of u n) (sym now.shows) ∙ shown_as entries nodes next n node e
