-- When the records of several actors are what one thread would get from some order of their calls.
use Rattle.std.specs.Prelude.{◌≡◌, ℕ, ◌+◌, List, [], ◌∷◌, set}
use mathlib.Core.Option.{some}
use lib.ListN.{get_elem?}
use Rattle.dc_plain.specs.Trees.{Tree, empty_tree}
use Rattle.dc_plain.specs.Runs.{reply_of, tree_after, alters}
use Rattle.dc_events.specs.Views.{Record}
use Rattle.dc_events.specs.Standing.{weight}

-- the records in this order: each call replies so on the tree that the ones before it left, and its point counts those of them that altered
abbrev pub Runs : ℕ → Tree → ℕ → List Record → Type 0
Runs limit t at [] = Unit {0}
Runs limit t at (r ∷ rs) = (r.at ≡ at) × (reply_of limit t r.call ≡ r.reply) × (alters limit t r.call ≡ r.altered) × Runs limit (tree_after limit t r.call) (at + weight r.altered) rs

-- the list has the records of all strands, those of each in their order
abbrev pub Merges : List (List Record) → List Record → Type 0
Merges ss [] = (i : ℕ) (s : List Record) → get_elem? ss i ≡ some s → s ≡ []
Merges ss (x ∷ xs) = (i : ℕ) × (rest : List Record) × (get_elem? ss i ≡ some (x ∷ rest)) × Merges (set ss i rest) xs

pub record Legal (limit : ℕ) (ss : List (List Record)) : Type 0 where
  pub order : List Record
  pub merges : Merges ss order
  pub runs : Runs limit empty_tree 0 order
