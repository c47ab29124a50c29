-- What a rename takes away once both names are known.
use Rattle.std.specs.Prelude.{◌≡◌, Bool, true, false, not, ◌||◌, Option, Some, None}
use Rattle.dc_names.specs.declared.name.Name as rust_name
use Rattle.dc_plain.specs.declared.spot.Spot as rust_spot
use Rattle.dc_plain.specs.declared.spot.Where as rust_where
use Rattle.dc_plain.specs.Facts.{Target}
use Rattle.dc_plain.specs.Facts.Label.{Entry}
use Rattle.dc_plain.specs.Resolution.{is_directory}
use Rattle.dc_plain.specs.Trees.{Tree, entry_of}
use Rattle.dc_ops.specs.Taken.{replaced, taken_if}
use Rattle.dc_ops.specs.declared.plans.Plan as rust_plan

-- whether a slash may stand behind a name, if one does: only a directory is found by that, and nothing is missing there as without it
abbrev pub may_end : Bool → Option Target → Bool
may_end slash None = true
may_end slash (Some place) = not slash || is_directory place

-- what stands at a name
abbrev pub target_by : Tree → rust_where.Where → rust_name.Name → Option Target
target_by t at name = entry_of t at.dir (Entry name.bytes.now)

-- by a move of what was found to a name goes what stands there, unless it is the same inode; behind the name of a directory a slash may stand
pub record TakesMoved (t : Tree) (to : rust_spot.Spot) (moved : Target) (found : Option rust_plan.Plan) : Type 0 where
  pub taken : taken_if found ≡ replaced (Some moved) (entry_of t to.dir (Entry to.name.bytes.now))
  pub kinds : is_directory moved ≡ true → may_end true (entry_of t to.dir (Entry to.name.bytes.now)) ≡ true

-- by a move from one name to another goes what stands at the new one, and slashes behind both lead no further
pub record TakesReplaced (t : Tree) (from : rust_where.Where) (old : rust_name.Name) (to : rust_where.Where) (new : rust_name.Name) (found : Option rust_plan.Plan) : Type 0 where
  pub taken : taken_if found ≡ replaced (target_by t from old) (target_by t to new)
  pub old_ends : may_end from.slash (target_by t from old) ≡ true
  pub new_ends : may_end to.slash (target_by t to new) ≡ true

-- and nothing goes by an exchange
abbrev pub TakesNamed : Tree → rust_where.Where → rust_name.Name → rust_where.Where → rust_name.Name → Bool → Option rust_plan.Plan → Type 0
TakesNamed t from old to new true found = taken_if found ≡ None
TakesNamed t from old to new false found = TakesReplaced t from old to new found
