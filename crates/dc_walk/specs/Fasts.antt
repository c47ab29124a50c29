-- What a look-up by rows promises.
use Rattle.std.specs.Prelude.{◌≡◌, ℕ, ◌+◌, ◌≤◌, List, [], Option, Some, None}
use Rattle.dc_plain.specs.declared.call.Follow.{Follow}
use Rattle.dc_plain.specs.declared.call.Stamped.{Stamped}
use Rattle.dc_plain.specs.Facts.{Teller, told_by}
use Rattle.dc_plain.specs.Resolution.{Outcome}
use Rattle.dc_plain.specs.Requests.Request.{Look}
use Rattle.dc_plain.specs.Requests.{Request, Answer, answer_of as reply_shown}
use Rattle.dc_events.specs.Views.{View}
use Rattle.dc_table.specs.Changes as changes
use Rattle.dc_table.specs.Changes.{NothingNew}
use Rattle.dc_walk.specs.Settling.{noted_in}
use Rattle.dc_walk.specs.Looks.{outcome_by}
use Rattle.dc_walk.specs.Causes.{HasCause}
use Rattle.dc_names.specs.declared.limits.TheConstants.{MOST_LOADS}
use Rattle.dc_walk.specs.declared.why.Why as rust_why
use Rattle.dc_walk.specs.declared.answer.Fast as rust_fast
use Rattle.dc_walk.specs.declared.answer.Fast.TheVariants as fasts

-- it gave up, for a cause of a walk that was begun in this call
pub record GaveUp (outcome : Teller → Option Outcome) (buckets : ℕ) (before now : View) (why : rust_why.Why) : Type 0 where
  pub cause : HasCause outcome buckets now why
  pub asks : outcome (told_by []) ≡ None
  pub nothing : NothingNew before now
  pub first_load : now.first_load ≡ before.loads
  pub loads : now.loads ≤ before.loads + MOST_LOADS

-- exactly this record was made, at a pivot of a walk that was begun in this call
pub record RecordedAlone (call : Request) (answer : Answer) (at : ℕ) (before now : View) : Type 0 where
  pub book : now.book ≡ noted_in before.book call answer at
  pub later : before.book.seen ≤ at
  pub first_load : now.first_load ≡ before.loads
  pub loads : now.loads ≤ before.loads + MOST_LOADS

abbrev pub Keeps : (base : ℕ) (text : List ℕ) (how : Follow) (buckets : ℕ) (before now : View) → rust_fast.Fast → Type 0
Keeps base text how buckets before now (fasts.Done stamped) = RecordedAlone (Look base text how) (reply_shown stamped.reply) stamped.at before now
Keeps base text how buckets before now (fasts.Again why) = GaveUp (outcome_by base text how) buckets before now why

-- only a walk that asks something gives up
abbrev pub IfAgain : rust_fast.Fast → Type 0 → Type 0
IfAgain (fasts.Done stamped) So = Unit {0}
IfAgain (fasts.Again why) So = So

-- an answer was recorded at its point, which is a pivot of a walk that was begun in this call, and nothing else was
pub record RecordedWithin (call : Request) (before now : View) (stamped : Stamped) : Type 0 where
  pub recorded : changes.Recorded before now call (reply_shown stamped.reply) stamped.at
  pub first_load : now.first_load ≡ before.loads

-- an answer is recorded within this call; without one nothing is
abbrev pub Tried : Request → (before now : View) → rust_fast.Fast → Type 0
Tried call before now (fasts.Done stamped) = RecordedWithin call before now stamped
Tried call before now (fasts.Again why) = NothingNew before now

-- so too for a caller that needs no cause
abbrev pub TriedBriefly : Request → (before now : View) → Option Stamped → Type 0
TriedBriefly call before now (Some stamped) = RecordedWithin call before now stamped
TriedBriefly call before now None = NothingNew before now
