-- The tree after a history of calls, and when a record stands in the history.
use Rattle.std.specs.Prelude.{◌≡◌, ℕ, ◌+◌, ◌≤◌, Bool, true, false, ◌&&◌, eqb, List, [], ◌∷◌, length, take, if◌then◌else◌}
use mathlib.Core.Option.{some}
use lib.ListN.{get_elem?}
use Rattle.dc_plain.specs.Requests.{Request}
use Rattle.dc_plain.specs.Trees.{Tree, empty_tree}
use Rattle.dc_plain.specs.Runs.{reply_of, tree_after_all, alters}
use Rattle.dc_events.specs.Views.{Record}

abbrev pub tree_of : ℕ → List Request → Tree
tree_of limit hist = tree_after_all limit empty_tree hist

-- the call replies so on the tree after `at` calls of the history, and is the next one of it if it alters that tree
pub record Stands (limit : ℕ) (hist : List Request) (r : Record) : Type 0 where
  pub within : r.at ≤ length hist
  pub replied : reply_of limit (tree_of limit (take r.at hist)) r.call ≡ r.reply
  pub altering : alters limit (tree_of limit (take r.at hist)) r.call ≡ r.altered
  pub placed : r.altered ≡ true → get_elem? hist r.at ≡ some r.call

abbrev pub weight : Bool → ℕ
weight true = 1
weight false = 0

-- the least point that a record after this one may have
abbrev pub after : Record → ℕ
after r = r.at + weight r.altered

abbrev pub Rising : ℕ → List Record → Type 0
Rising p [] = Unit {0}
Rising p (r ∷ rs) = (p ≤ r.at) × Rising (after r) rs

abbrev pub ends : ℕ → List Record → ℕ
ends p [] = p
ends p (r ∷ rs) = ends (after r) rs

abbrev pub hit : ℕ → Record → ℕ
hit p r = if r.altered && eqb r.at p then 1 else 0

-- how many of the records altered the tree at p
abbrev pub hits : ℕ → List Record → ℕ
hits p [] = 0
hits p (r ∷ rs) = hit p r + hits p rs

abbrev pub all_hits : ℕ → List (List Record) → ℕ
all_hits p [] = 0
all_hits p (s ∷ ss) = hits p s + all_hits p ss
