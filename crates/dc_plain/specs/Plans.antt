-- What a call was found to answer, or to change.
use Rattle.std.specs.Prelude.{◌≡◌, ◌≢◌, ℕ, List, false, Option, Some, None, MatchOption, Ok}
use Rattle.dc_plain.specs.declared.plan.New as rust_new
use Rattle.dc_plain.specs.declared.plan.New.TheVariants as news
use Rattle.dc_plain.specs.declared.plan.Change as rust_change
use Rattle.dc_plain.specs.declared.plan.Change.TheVariants as changes
use Rattle.dc_plain.specs.declared.plan.Plan as rust_plan
use Rattle.dc_plain.specs.declared.plan.Plan.TheVariants as plans
use Rattle.dc_plain.specs.Facts.{Target}
use Rattle.dc_plain.specs.Spots.{spot_shown}
use Rattle.dc_plain.specs.Trees.{Tree, Spot, Inode, entry_number}
use Rattle.dc_plain.specs.Trees.Inode.{Directory, Regular, Symbolic}
use Rattle.dc_plain.specs.Requests.{Request, Answer, answer_of}
use Rattle.dc_plain.specs.Requests.Answer.{Done, Nothing}
use Rattle.dc_plain.specs.Effects.{with_new, with_entry_for, without_entry, without_entry_alone, without_there, tree_swapped}
use Rattle.dc_plain.specs.Operations.{change_of, same_inode}

abbrev pub new_shown : rust_new.New → Inode
new_shown news.Directory = Directory
new_shown news.File = Regular
new_shown (news.Link text) = Symbolic text.bytes.now

-- without what stood at the new name, and without the old name
abbrev pub without_moved : Tree → Spot → Spot → Option Target → Tree
without_moved t from to there = without_entry_alone (without_there t to.dir to.name there) from.dir from.name

-- and with the inode at the new name
abbrev pub with_moved : Tree → Target → Spot → Spot → Option Target → Tree
with_moved t moved from to there = with_entry_for (without_moved t from to there) to.dir to.name moved.0

-- what a change answers, and the tree that it makes
abbrev pub changed : Tree → rust_change.Change → Answer × Tree
changed t (changes.Make spot new) = (Done t.next, with_new t spot.dir spot.name.bytes.now (new_shown new))
changed t (changes.Link spot number) = (Done number, with_entry_for t spot.dir spot.name.bytes.now number)
changed t (changes.Drop spot number) = (Nothing, without_entry t spot.dir spot.name.bytes.now number)
changed t (changes.Move moved from to there) = (Nothing, with_moved t moved (spot_shown from) (spot_shown to) there)
changed t (changes.Swap moved from to there) = (Nothing, tree_swapped t (spot_shown from) moved.0 (spot_shown to) there.0)

abbrev pub planned : Tree → rust_plan.Plan → Answer × Tree
planned t (plans.Answer reply) = (answer_of reply, t)
planned t (plans.Change change) = changed t change

-- where an entry was found to lead
abbrev pub LeadsTo : Tree → ℕ → List ℕ → Option Target → Type 0
LeadsTo t d name there =
    let target = entry_number t (record { dir = d; name = name }) in
    MatchOption there (target ≡ None) (λ place. target ≡ Some place.0)

-- where the names of a change lead before it
abbrev pub HasSpots : Tree → rust_change.Change → Type 0
HasSpots t (changes.Make spot new) = entry_number t (spot_shown spot) ≡ None
HasSpots t (changes.Link spot number) = entry_number t (spot_shown spot) ≡ None
HasSpots t (changes.Drop spot number) = entry_number t (spot_shown spot) ≡ Some number
HasSpots t (changes.Move moved from to there) = LeadsTo t to.dir to.name.bytes.now there × (same_inode moved there ≡ false)
HasSpots t (changes.Swap moved from to there) =
    (entry_number t (spot_shown from) ≡ Some moved.0) × (entry_number t (spot_shown to) ≡ Some there.0) × (moved.0 ≢ there.0)

abbrev pub HasSpotsIfChange : Tree → rust_plan.Plan → Type 0
HasSpotsIfChange t (plans.Answer reply) = Unit {0}
HasSpotsIfChange t (plans.Change change) = HasSpots t change

-- some request answers so, and leaves this tree
pub record IsMade (limit : ℕ) (t : Tree) (done : Answer × Tree) : Type 0 where
  pub request : Request
  pub found : change_of limit t request ≡ Ok done
