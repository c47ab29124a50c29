-- What rows told before a pass has the lock.
use Rattle.std.specs.Prelude.{◌≡◌, ℕ, ◌<◌, Some, None, length, map}
use Rattle.dc_names.specs.Paths.{fault_of}
use Rattle.dc_names.specs.declared.kind.Kind.TheVariants.{Dir}
use Rattle.dc_plain.specs.declared.call.Follow.TheVariants as follow
use Rattle.dc_plain.specs.Resolution.Outcome.{Found}
use Rattle.dc_plain.specs.Trees.{Tree, Holds}
use Rattle.dc_events.specs.Views.{View}
use Rattle.dc_ops.specs.declared.known.Known.{Known}
use Rattle.dc_walk.specs.Finds.{use_shown, fact_shown, told_in, AllInside}
use Rattle.dc_walk.specs.Looks.{outcome_by}
use Rattle.dc_walk.specs.Rooms.{Kept, used_at}
use Rattle.dc_walk.specs.Uses.{Marked}

-- the rows in the room are some of this many, and were noted in this view
pub record AreNoted (v : View) (rows : ℕ) (room : Kept) : Type 0 where
  pub noted : 0 < length room.items → Marked 0 0 v.walk.notes (map use_shown room.items)
  pub inside : AllInside rows room.items

-- what each of them tells is so on the tree
abbrev pub AreTrue : Tree → Kept → Type 0
AreTrue t room = (j : ℕ) → j < length room.items → Holds t (fact_shown (used_at room.items j))

-- by such rows the path leads to the directory
pub record IsFoundBy (v : View) (rows : ℕ) (room : Kept) (known : Known) : Type 0 where
  pub are : AreNoted v rows room
  pub valid : fault_of known.front.now ≡ None
  pub leads : outcome_by known.base known.front.now follow.Dir (told_in room.items) ≡ Some (Found (known.dir, Dir))
