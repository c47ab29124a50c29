-- What a plan makes of a tree, and which plans are a change's.
use Rattle.std.specs.Prelude.{◌≡◌, ℕ, List, Option, Some, None, Result, Ok, Err, MatchOption, MatchResult, IfSome, true, false, IsTrue}
use Rattle.dc_names.specs.declared.refusal.Refusal.{Refusal}
use Rattle.dc_plain.specs.Facts.{Key, Target}
use Rattle.dc_plain.specs.KeysShown.{keys_in}
use Rattle.dc_plain.specs.IsWellFormed.{IsWellFormed}
use Rattle.dc_plain.specs.Trees.{Tree, Spot, is_live_directory, entry_number, target_at}
use Rattle.dc_plain.specs.Requests.{Request, Answer}
use Rattle.dc_plain.specs.Requests.Answer.{Done, Nothing}
use Rattle.dc_plain.specs.Requests.Request.{Unlink, Rmdir, Rename}
use Rattle.dc_plain.specs.Conditions.{CanSwap, is_full_directory}
use Rattle.dc_plain.specs.Effects.{without_entry, tree_swapped}
use Rattle.dc_plain.specs.Operations.{Change, operation}
use Rattle.dc_plain.specs.Runs.{alters}
use Rattle.dc_plain.specs.Spots.{spot_at, spot_shown}
use Rattle.dc_plain.specs.TouchedKeys.{keys_gone, keys_touched, with_number}
use Rattle.dc_store.specs.Added.{CanAdd, tree_added, number_added}
use Rattle.dc_store.specs.Moved.{CanStandAt, tree_moved}
use Rattle.dc_store.specs.declared.store.New as rust_new
use Rattle.dc_ops.specs.Keys.{AreDistinct, keys_of}
use Rattle.dc_ops.specs.Taken.{taken, taken_by}
use Rattle.dc_ops.specs.declared.plans.Plan as rust_plan
use Rattle.dc_ops.specs.declared.plans.Plan.TheVariants as plans

-- the reply of a plan and the tree that it leaves
abbrev pub effect : rust_plan.Plan → Tree → Answer × Tree
effect (plans.Add dir name new number) t = (Done number, tree_added t dir name.bytes.now new)
effect (plans.Drop dir name number kind lost) t = (Nothing, without_entry t dir name.bytes.now number)
effect (plans.Move from to number reparents over lost) t = (Nothing, tree_moved t (spot_shown from) (spot_shown to) number)
effect (plans.Swap from to first second) t = (Nothing, tree_swapped t (spot_shown from) first.number (spot_shown to) second.number)

-- an entry may be added: its directory lives, it isn't there, and it leads to the number told
abbrev pub CanAddAt : Tree → Spot → rust_new.New → ℕ → Type 0
CanAddAt t spot new number = IsTrue (is_live_directory t spot.dir) × (entry_number t spot ≡ None) × CanAdd t new × (number ≡ number_added t new)

-- an entry may go: it leads to the number told, which is no directory with entries
abbrev pub CanDropAt : Tree → Spot → ℕ → Type 0
CanDropAt t spot number = (entry_number t spot ≡ Some number) × (is_full_directory t number ≡ false)

-- an entry may move: it leads to the number told, which may stand at the new name
abbrev pub CanMoveAt : Tree → Spot → Spot → ℕ → Type 0
CanMoveAt t from to number = (entry_number t from ≡ Some number) × CanStandAt t to number

-- the plan can be carried out on the tree
abbrev pub CanCarry : rust_plan.Plan → Tree → Type 0
CanCarry (plans.Add dir name new number) t = CanAddAt t (spot_at dir name.bytes.now) new number
CanCarry (plans.Drop dir name number kind lost) t = CanDropAt t (spot_at dir name.bytes.now) number
CanCarry (plans.Move from to number reparents over lost) t = CanMoveAt t (spot_shown from) (spot_shown to) number
CanCarry (plans.Swap from to first second) t = CanSwap t (spot_shown from) first.number (spot_shown to) second.number

-- what a plan says that goes with a last name is what goes
abbrev pub Loses : rust_plan.Plan → Tree → Type 0
Loses (plans.Add dir name new number) t = Unit {0}
Loses (plans.Drop dir name number kind lost) t = keys_in lost ≡ keys_gone t number
Loses (plans.Move from to number reparents over lost) t = keys_in lost ≡ with_number (entry_number t (spot_shown to)) (keys_gone t)
Loses (plans.Swap from to first second) t = Unit {0}

-- an entry that goes takes no memory, and two that swap take none
abbrev pub PlanTakesNoMemory : rust_plan.Plan → Type 0
PlanTakesNoMemory (plans.Add dir name new number) = ⊥
PlanTakesNoMemory (plans.Drop dir name number kind lost) = Unit {0}
PlanTakesNoMemory (plans.Move from to number reparents over lost) = ⊥
PlanTakesNoMemory (plans.Swap from to first second) = Unit {0}

-- a call by which an entry goes and none comes, or two swap, takes no memory
abbrev pub CallTakesNoMemory : Request → Type 0
CallTakesNoMemory (Unlink base path) = Unit {0}
CallTakesNoMemory (Rmdir base path) = Unit {0}
CallTakesNoMemory (Rename base old new flags) = IsTrue flags.exchange
CallTakesNoMemory _ = ⊥

-- a plan of a change: its effect is the change's, it can be carried out, and its keys are those listed
pub record IsPlanOf (t : Tree) (change : Change) (listed : List Key) (plan : rust_plan.Plan) : Type 0 where
  pub does : change ≡ Ok (effect plan t)
  pub can : CanCarry plan t
  pub keys : keys_of plan ≡ listed
  pub loses : Loses plan t

-- a change comes to a plan of it, or to its refusal
abbrev pub Settles : Tree → Change → List Key → Result rust_plan.Plan Refusal → Type 0
Settles t change listed found = MatchResult found (IsPlanOf t change listed) (λ refusal. change ≡ Err refusal)

-- or to nothing, as a rename between two names of one inode
abbrev pub SettlesIf : Tree → Change → List Key → Result (Option rust_plan.Plan) Refusal → Type 0
SettlesIf t change listed found =
    MatchResult found (λ plan. MatchOption plan (change ≡ Ok (Nothing, t)) (IsPlanOf t change listed)) (λ refusal. change ≡ Err refusal)

-- in a tree that calls can make, this inode lives and is of that kind
abbrev pub LivesIfWell : Tree → Target → Type 0
LivesIfWell t place = IsWellFormed t → target_at t place.0 ≡ Some place

-- the plan of a change: its effect is the operation, the tree differs afterwards, its keys are those touched, each once,
-- it takes no memory if the call takes none, and it tells what goes by the call, which lives
pub record Plans (limit : ℕ) (t : Tree) (request : Request) (plan : rust_plan.Plan) : Type 0 where
  pub operation : operation limit t request ≡ effect plan t
  pub can : CanCarry plan t
  pub alters : alters limit t request ≡ true
  pub keys : keys_of plan ≡ keys_touched limit t request
  pub distinct : AreDistinct (keys_of plan)
  pub without_memory : CallTakesNoMemory request → PlanTakesNoMemory plan
  pub takes : taken plan ≡ taken_by t request
  pub lives : IfSome (taken plan) (LivesIfWell t)

-- the reply of a call that leaves the tree as it is
pub record Declines (limit : ℕ) (t : Tree) (request : Request) (answer : Answer) : Type 0 where
  pub operation : operation limit t request ≡ (answer, t)
  pub alters : alters limit t request ≡ false
