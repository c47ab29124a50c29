-- What a walk by rows that tells its trail comes to.
use Rattle.std.specs.Prelude.{◌≡◌, ℕ, ◌+◌, ◌≤◌, ◌<◌, false, List, length, map, take}
use Rattle.dc_plain.specs.declared.call.Follow.{Follow}
use Rattle.dc_plain.specs.declared.call.Stamped.{Stamped}
use Rattle.dc_plain.specs.Facts.{told_by}
use Rattle.dc_plain.specs.Requests.{answer_of}
use Rattle.dc_plain.specs.Requests.Request.{Look as Looks}
use Rattle.dc_events.specs.Views.{View}
use Rattle.dc_events.specs.Standing.{tree_of}
use Rattle.dc_names.specs.declared.limits.TheConstants.{MOST_LOADS}
use Rattle.dc_table.specs.Changes.{NothingNew}
use Rattle.dc_table.specs.Passes.{Pass, known, view, share}
use Rattle.dc_table.specs.Shares.{Known}
use Rattle.dc_table.specs.Walking.{CountsAt}
use Rattle.dc_trail.specs.Keeping.{HasLongerTrail, IsTrailBy}
use Rattle.dc_trail.specs.Places.{HasTrail}
use Rattle.dc_trail.specs.declared.halt.Halt.{Halt}
use Rattle.dc_trail.specs.declared.halt.Halt.TheVariants as halts
use Rattle.dc_walk.specs.Fasts.{GaveUp, RecordedAlone}
use Rattle.dc_walk.specs.Findings.{buckets_of}
use Rattle.dc_walk.specs.Finds.{told_in, use_shown}
use Rattle.dc_walk.specs.Looks.{outcome_by}
use Rattle.dc_walk.specs.Placing.{AreTrue}
use Rattle.dc_walk.specs.Rooms.{Kept}
use Rattle.dc_walk.specs.Uses.{Use, Marked, facts_of}
use Rattle.dc_walk.specs.Walks.{StoppedAt, WentTo}
use Rattle.dc_walk.specs.declared.along.Along.{Along}
use Rattle.dc_walk.specs.declared.along.FastAlong.{FastAlong}
use Rattle.dc_walk.specs.declared.along.FastAlong.TheVariants as alongs
use Rattle.dc_walk.specs.declared.answer.Fast as rust_fast
use Rattle.dc_walk.specs.declared.answer.Fast.TheVariants as fasts
use Rattle.dc_walk.specs.declared.look.Look.{Look}
use Rattle.dc_walk.specs.declared.rows.Stop.{Stop}

-- the pass's last pivot counted this many calls, and what each row in the room tells was so on the tree after them
pub record WereTrue (k : Known) (limit : ℕ) (room : Kept) (at : ℕ) : Type 0 where
  pub counts : CountsAt k at
  pub all : AreTrue (tree_of limit counts.history) room

-- so it is of a walk that was answered
abbrev pub IfDone : rust_fast.Fast → (ℕ → Type 0) → Type 0
IfDone (fasts.Done stamped) So = So stamped.at
IfDone (fasts.Again why) So = Unit {0}

-- the walk of this pass came to a reply, and the first places have its trail, by what the rows in the room tell
pub record WentAlong (look : Look) (p q : Pass) (room : Kept) (places : List ℕ) (along : Along) : Type 0 where
  pub went : WentTo false look p q along.begun room along.reply
  pub few : along.many ≤ length places
  pub trail : IsTrailBy (told_in room.items) look.base look.path.bytes.now look.follow (take along.many places)

-- nothing is recorded, and by these notes of the walk the trail is longer than there are places
pub record LacksPlaces (base : ℕ) (text : List ℕ) (how : Follow) (before now : View) (uses : List Use) (places : ℕ) : Type 0 where
  pub nothing : NothingNew before now
  pub noted : 0 < length uses → Marked 0 0 now.walk.notes uses
  pub longer : HasLongerTrail (told_by (facts_of uses)) base text how places
  pub loads : now.loads ≤ before.loads + MOST_LOADS

-- it gave up, or had too few places
abbrev pub HaltedAt : Look → Pass → Pass → Kept → ℕ → Halt Stop → Type 0
HaltedAt look p q room places (halts.Finder stop) = StoppedAt false false look p q room stop.why
HaltedAt look p q room places halts.Full = LacksPlaces look.base look.path.bytes.now look.follow (view p) (view q) (map use_shown room.items) places

-- the look-up was recorded alone, and its trail is that on the tree after the history that its pivot counted
pub record FoundAlong (base : ℕ) (text : List ℕ) (how : Follow) (p q : Pass) (places : List ℕ) (stamped : Stamped) (many : ℕ) : Type 0 where
  pub recorded : RecordedAlone (Looks base text how) (answer_of stamped.reply) stamped.at (view p) (view q)
  pub counts : CountsAt (known q) stamped.at
  pub has : HasTrail (tree_of (share p).limit counts.history) base text how places many

-- or it gave up for a cause that it met; or its trail is longer than there are places, by rows that it noted
abbrev pub FindsAlong : ℕ → List ℕ → Follow → Pass → Pass → List ℕ → FastAlong → Type 0
FindsAlong base text how p q places (alongs.Done stamped many) = FoundAlong base text how p q places stamped many
FindsAlong base text how p q places (alongs.Again why) = GaveUp (outcome_by base text how) (buckets_of p) (view p) (view q) why
FindsAlong base text how p q places alongs.TooFewPlaces = (uses : List Use) × LacksPlaces base text how (view p) (view q) uses (length places)
