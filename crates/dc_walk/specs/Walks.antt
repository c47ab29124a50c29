-- What a walk by the rows of a source comes to, which may take the lock or not.
use Rattle.std.specs.Prelude.{◌≡◌, ℕ, ◌+◌, ◌*◌, ◌<◌, ◌≤◌, List, [], Bool, false, None, length, map}
use Rattle.dc_plain.specs.Facts.{told_by}
use Rattle.dc_plain.specs.Requests.{Answer, answer_of}
use Rattle.dc_plain.specs.declared.call.Reply.{Reply}
use Rattle.dc_events.specs.Views.{View}
use Rattle.dc_events.specs.Effects.{begun}
use Rattle.dc_table.specs.Changes.{NothingNew}
use Rattle.dc_table.specs.Passes.{Pass, view}
use Rattle.dc_walk.specs.Findings.{buckets_of, view_in}
use Rattle.dc_walk.specs.Finds.{use_shown}
use Rattle.dc_walk.specs.Rooms.{Kept}
use Rattle.dc_walk.specs.Uses.{Use, Marked}
use Rattle.dc_walk.specs.Becomings.{Between}
use Rattle.dc_walk.specs.Fasts.{GaveUp, Keeps, IfAgain, Tried}
use Rattle.dc_walk.specs.Looks.{look_shown, outcome_of}
use Rattle.dc_walk.specs.Settling.{Came, Settled}
use Rattle.dc_names.specs.declared.limits.TheConstants.{BUCKET_ROWS, ROW_WORDS, MOST_LOADS}
use Rattle.dc_walk.specs.declared.look.Look.{Look}
use Rattle.dc_walk.specs.declared.why.Why.{Why}
use Rattle.dc_walk.specs.declared.answer.Fast.{Fast}

-- a walk of this question came to an answer
pub record Went (locks : Bool) (look : Look) (before now : View) (uses : List Use) (answer : Answer) : Type 0 where
  pub came : Came (outcome_of look) (look_shown look) now uses answer
  pub walk : Between locks (begun before (look_shown look)) now
  pub few : ROW_WORDS * (BUCKET_ROWS * length uses + came.spent) + length uses < MOST_LOADS

-- it gave up, by the notes that it used so far: one without the lock for a cause that it has seen, unless it is brief
pub record Stopped (locks brief : Bool) (look : Look) (buckets : ℕ) (before now : View) (uses : List Use) (why : Why) : Type 0 where
  pub nothing : NothingNew before now
  pub asks : outcome_of look (told_by []) ≡ None
  pub noted : 0 < length uses → Marked 0 0 now.walk.notes uses
  pub gave_up : locks ≡ false → brief ≡ false → GaveUp (outcome_of look) buckets before now why

-- the walk with this room came to a reply
abbrev pub CameTo : Look → View → Kept → Reply → Type 0
CameTo look now room reply = Came (outcome_of look) (look_shown look) now (map use_shown room.items) (answer_of reply)

-- and was one of this pass, whose walk is begun or not
abbrev pub WentTo : Bool → Look → Pass → Pass → Bool → Kept → Reply → Type 0
WentTo locks look p q begun room reply = Went locks look (view p) (view_in begun q look) (map use_shown room.items) (answer_of reply)

-- the walk of this pass gave up
abbrev pub StoppedAt : (locks brief : Bool) → Look → Pass → Pass → Kept → Why → Type 0
StoppedAt locks brief look p q room why = Stopped locks brief look (buckets_of p) (view p) (view q) (map use_shown room.items) why

-- its pivot was made, and this many rows were checked; before that the view was this
pub record Settles (look : Look) (used : ℕ) (before now : View) (fast : Fast) : Type 0 where
  pub settled : Settled (look_shown look) before now fast
  pub asks : IfAgain fast (outcome_of look (told_by []) ≡ None)
  pub loads : now.loads ≤ before.loads + 1 + used
  pub first_load : now.first_load ≡ before.first_load

-- what is promised without the lock
pub record WalksFast (look : Look) (buckets : ℕ) (before now : View) (fast : Fast) : Type 0 where
  pub keeps : Keeps look.base look.path.bytes.now look.follow buckets before now fast
  pub asks : IfAgain fast (outcome_of look (told_by []) ≡ None)
  pub loads : now.loads ≤ before.loads + MOST_LOADS

-- and what with it and without it
pub record Walks (locks : Bool) (look : Look) (buckets : ℕ) (before now : View) (fast : Fast) : Type 0 where
  pub tried : Tried (look_shown look) before now fast
  pub free : locks ≡ false → WalksFast look buckets before now fast
