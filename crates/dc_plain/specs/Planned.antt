-- What the slow machine finds a call to change.
use Rattle.std.specs.Prelude.{ℕ, List, Bool, Result, Ok, is_some, nat_le}
use Rattle.dc_names.specs.declared.limits.TheConstants.{MOST_NAMES}
use Rattle.dc_names.specs.declared.name.Name as rust_name
use Rattle.dc_names.specs.declared.refusal.Refusal.TheVariants.{NotPermitted, NotFound, Exists, NotDirectory, TooManyNames}
use Rattle.dc_plain.specs.declared.call.Flags.{Flags}
use Rattle.dc_plain.specs.declared.failure.Failure as rust_failure
use Rattle.dc_plain.specs.declared.plan.Change as rust_change
use Rattle.dc_plain.specs.declared.plan.New as rust_new
use Rattle.dc_plain.specs.declared.plan.Plan as rust_plan
use Rattle.dc_plain.specs.declared.spot.Where as rust_where
use Rattle.dc_plain.specs.Effects.{with_entry_for}
use Rattle.dc_plain.specs.Facts.{Target}
use Rattle.dc_plain.specs.Facts.Label.{Entry}
use Rattle.dc_plain.specs.Failures.{Finds}
use Rattle.dc_plain.specs.Machines.{Machine}
use Rattle.dc_plain.specs.Operations.{Change, make, move_name, swap_names, rename_at}
use Rattle.dc_plain.specs.Plans.{changed, new_shown, planned}
use Rattle.dc_plain.specs.Refusals.{◌>>=◌, present, refuse}
use Rattle.dc_plain.specs.Requests.Answer.{Done}
use Rattle.dc_plain.specs.Resolution.{is_directory}
use Rattle.dc_plain.specs.Spots.{where_shown}
use Rattle.dc_plain.specs.Trees.{Tree, entry_of, names_of}

-- the tree that a change makes
abbrev pub tree_by : Tree → rust_change.Change → Tree
tree_by t change = (changed t change).1

-- a new inode in the machine's tree, with its entry
abbrev pub made_in : Machine → ℕ → List ℕ → Bool → rust_new.New → Change
made_in machine base text may_end_in_slash new = make machine.limit machine.tree base text may_end_in_slash (new_shown new)

-- what was found is a plan of a change on a tree, or the change's refusal
abbrev pub FindsPlan : Tree → (Tree → Change) → Result rust_plan.Plan rust_failure.Failure → Type 0
FindsPlan t change found = Finds found (planned t) (change t)

-- what stands at a name gets a further one, each in the place of its path
abbrev pub link_from : rust_where.Where → rust_name.Name → rust_where.Where → rust_name.Name → Tree → Change
link_from from old to new t = do
  inode ← present NotFound (entry_of t from.dir (Entry old.bytes.now))
  no_directory ← refuse (is_directory inode) NotPermitted
  old_ends ← refuse from.slash NotDirectory
  free ← refuse (is_some (entry_of t to.dir (Entry new.bytes.now))) Exists
  new_ends ← refuse to.slash NotFound
  room ← refuse (nat_le MOST_NAMES (names_of t inode.0)) TooManyNames
  Ok (Done inode.0, with_entry_for t to.dir new.bytes.now inode.0)

-- what stands at a name gets another in its place
abbrev pub move_from : rust_where.Where → rust_name.Name → rust_where.Where → rust_name.Name → Target → Bool → Tree → Change
move_from from old to new moved no_replace t = move_name t (where_shown from) old.bytes.now (where_shown to) new.bytes.now moved no_replace

-- what stands at two names swaps them
abbrev pub swap_from : rust_where.Where → rust_name.Name → rust_where.Where → rust_name.Name → Target → Tree → Change
swap_from from old to new moved t = swap_names t (where_shown from) old.bytes.now (where_shown to) new.bytes.now moved

-- the one or the other, by the flags
abbrev pub rename_from : rust_where.Where → rust_name.Name → rust_where.Where → rust_name.Name → Flags → Tree → Change
rename_from from old to new flags t = rename_at t (where_shown from) old.bytes.now (where_shown to) new.bytes.now flags
