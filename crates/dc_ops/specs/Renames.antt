-- A rename once both names are known.
use Rattle.std.specs.Prelude.{ℕ, List, Bool, length, is_some, ◌&&◌, Option, Result, Ok, if◌then◌else◌}
use Rattle.dc_names.specs.declared.name.Name as rust_name
use Rattle.dc_names.specs.declared.refusal.Refusal.{Refusal}
use Rattle.dc_names.specs.declared.refusal.Refusal.TheVariants.{Exists, Invalid}
use Rattle.dc_plain.specs.declared.call.Flags.{Flags}
use Rattle.dc_plain.specs.declared.spot.Spot as rust_spot
use Rattle.dc_plain.specs.declared.spot.Where as rust_where
use Rattle.dc_plain.specs.Facts.{Target, Key}
use Rattle.dc_plain.specs.Spots.{spot_shown, where_shown}
use Rattle.dc_plain.specs.TouchedKeys.{keys_by, keys_renamed, keys_swapped}
use Rattle.dc_plain.specs.Facts.Label.{Entry}
use Rattle.dc_plain.specs.Resolution.{is_directory}
use Rattle.dc_plain.specs.Trees.{Tree, Spot, entry_of}
use Rattle.dc_plain.specs.Refusals.{◌>>=◌, refuse}
use Rattle.dc_plain.specs.Operations.{Change, is_beneath, rename_at, replaceable, same_inode, swap_names}
use Rattle.dc_plain.specs.Requests.Answer.{Nothing}
use Rattle.dc_store.specs.Moved.{tree_moved}
use Rattle.dc_ops.specs.Plans.{SettlesIf}
use Rattle.dc_ops.specs.declared.plans.Plan as rust_plan

-- what was found at the old name gets the new one, which has to be free if nothing may be replaced
abbrev pub move_to : Tree → Spot → Spot → Target → Bool → Change
move_to t from to moved no_replace = do
  let there = entry_of t to.dir (Entry to.name)
  free ← refuse (no_replace && is_some there) Exists
  if same_inode moved there then Ok (Nothing, t) else do
    apart ← refuse (is_directory moved && is_beneath (length t.inodes) t to.dir moved.0) Invalid
    may ← replaceable t moved there
    Ok (Nothing, tree_moved t from to moved.0)

abbrev pub keys_of_move : Tree → Spot → Spot → List Key
keys_of_move t from to = keys_renamed t from.dir from.name to.dir to.name

-- going up from a directory one meets an inode
abbrev pub lies_beneath : Tree → ℕ → ℕ → Bool
lies_beneath t dir number = is_beneath (length t.inodes) t dir number

-- a move comes to a plan, to nothing if both names lead to one inode, or to its refusal
abbrev pub SettlesMove : Tree → rust_spot.Spot → rust_spot.Spot → Target → Bool → Result (Option rust_plan.Plan) Refusal → Type 0
SettlesMove t from to moved no_replace found =
    SettlesIf t (move_to t (spot_shown from) (spot_shown to) moved no_replace) (keys_of_move t (spot_shown from) (spot_shown to)) found

-- and so does a swap of what stands at two names
abbrev pub SettlesSwap : Tree → rust_where.Where → rust_name.Name → rust_where.Where → rust_name.Name → Target → Result (Option rust_plan.Plan) Refusal → Type 0
SettlesSwap t from old to new moved found =
    SettlesIf t (swap_names t (where_shown from) old.bytes.now (where_shown to) new.bytes.now moved) (keys_swapped t from.dir old.bytes.now to.dir new.bytes.now) found

-- and so does a rename of the one or the other kind, by its flags
abbrev pub SettlesNamed : Tree → rust_where.Where → rust_name.Name → rust_where.Where → rust_name.Name → Flags → Result (Option rust_plan.Plan) Refusal → Type 0
SettlesNamed t from old to new flags found =
    SettlesIf t (rename_at t (where_shown from) old.bytes.now (where_shown to) new.bytes.now flags) (keys_by flags t from.dir old.bytes.now to.dir new.bytes.now) found
