-- Where a whole path leads from a starting directory, and where its last part is to be looked up (POSIX.1-2017 XBD 4.13).
use Rattle.std.specs.Prelude.{ℕ, Bool, false, ◌==◌, ◌||◌, ◌-◌, length, take, slice_get, option_map, Option, Some, None, if◌then◌else◌}
use Rattle.dc_names.specs.declared.refusal.Refusal.{Refusal}
use Rattle.dc_names.specs.declared.refusal.Refusal.TheVariants.{NotFound}
use Rattle.dc_names.specs.declared.limits.TheConstants.{MOST_LINKS}
use Rattle.dc_names.specs.Paths.{Part, Path}
use Rattle.dc_names.specs.Lasts.{Last, last_part}
use Rattle.dc_names.specs.Lasts.Last.{Root}
use Rattle.dc_names.specs.declared.kind.Kind.TheVariants.{Dir}
use Rattle.dc_plain.specs.declared.call.Follow.{Follow}
use Rattle.dc_plain.specs.declared.call.Follow.TheVariants as follow
use Rattle.dc_plain.specs.Facts.{Target, Teller}
use Rattle.dc_plain.specs.Facts.Label.{Parent}
use Rattle.dc_plain.specs.Resolution.{Outcome, root, resolve}
use Rattle.dc_plain.specs.Resolution.Outcome.{Found, Refused}

-- where a path begins: `None` if that isn't told, `Some None` if no such directory is
abbrev pub start : Teller → ℕ → Path → Option (Option Target)
start teller base path =
    if path.absolute || base == 1 then Some (Some root)
    else option_map (option_map (λ up. (base, Dir))) (teller.entry base Parent)

abbrev pub with_start : Option (Option Target) → (Target → Option Outcome) → Option Outcome
with_start None go = None
with_start (Some None) go = Some (Refused NotFound)
with_start (Some (Some place)) go = go place

-- the whole path: `None` if a fact that is asked for isn't told
abbrev pub walk : Teller → ℕ → Path → Follow → Option Outcome
walk teller base path how = with_start (start teller base path) (λ place. resolve teller how MOST_LINKS place path.parts path.slash)

-- a directory, the last part of a path to be looked up there, and whether a slash ends the path
pub record Where : Type 0 where
  pub dir : ℕ
  pub last : Last
  pub slash : Bool

-- the place of a path, or a refusal
pub data Placed : Type 0 where
  At : Where → Placed
  Not : Refusal → Placed

abbrev pub placed_by : Option Part → Bool → Option Outcome → Option Placed
placed_by None slash front = Some (At (record { dir = 1; last = Root; slash = false }))
placed_by (Some last) slash None = None
placed_by (Some last) slash (Some (Refused refusal)) = Some (Not refusal)
placed_by (Some last) slash (Some (Found at)) = Some (At (record { dir = at.0; last = last_part last; slash = slash }))

-- where all parts but the last lead, to a directory
abbrev pub front_of : Teller → ℕ → Path → Option Outcome
front_of teller base path =
    with_start (start teller base path) (λ place. resolve teller follow.Dir MOST_LINKS place (take (length path.parts - 1) path.parts) false)

-- the front of a path, and its last part, which is neither asked for nor followed
abbrev pub place : Teller → ℕ → Path → Option Placed
place teller base path = placed_by (slice_get path.parts (length path.parts - 1)) path.slash (front_of teller base path)
