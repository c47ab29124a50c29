-- The pivot of a walk that came to an answer, and the checks of the notes that it used.
use Rattle.std.specs.Prelude.{◌≡◌, ℕ, ◌+◌, ◌<◌, ◌≤◌, List, true, false, Option, Some, length}
use Rattle.std.specs.List.{Contains}
use Rattle.dc_plain.specs.FactLaws.{outcome_answer}
use Rattle.dc_plain.specs.Facts.{Teller, told_by}
use Rattle.dc_plain.specs.Resolution.{Outcome}
use Rattle.dc_plain.specs.Requests.{Request, Answer, answer_of as reply_shown}
use Rattle.dc_events.specs.Views.{View, Book}
use Rattle.dc_events.specs.Views.Fault.{Changed}
use Rattle.dc_events.specs.Effects.{with_seen, with_record}
use Rattle.dc_table.specs.Changes.{NothingNew}
use Rattle.dc_walk.specs.Uses.{Use, Marked, facts_of}
use Rattle.dc_walk.specs.Asking.{IsWalk}
use Rattle.dc_walk.specs.declared.why.Why as rust_why
use Rattle.dc_walk.specs.declared.why.Why.TheVariants as whys
use Rattle.dc_walk.specs.declared.answer.Fast as rust_fast
use Rattle.dc_walk.specs.declared.answer.Fast.TheVariants as fasts

-- the book with the record of a look-up that was answered at this clock, which is seen then
abbrev pub noted_in : Book → Request → Answer → ℕ → Book
noted_in book call answer at = with_record (with_seen book at) (record { call = call; reply = answer; at = at; altered = false })

-- the walk came to this answer by the notes that it used
pub record Came (outcome : Teller → Option Outcome) (call : Request) (now : View) (uses : List Use) (answer : Answer) : Type 0 where
  pub spent : ℕ
  pub walk : IsWalk outcome now uses spent
  pub about : now.walk.call ≡ call
  pub end : Outcome
  pub found : outcome (told_by (facts_of uses)) ≡ Some end
  pub answers : answer ≡ outcome_answer end

-- while notes are unchecked
pub record IsOpen (call : Request) (uses : List Use) (book : Book) (at c : ℕ) (w : View) : Type 0 where
  pub busy : w.walk.busy ≡ true
  pub late : w.walk.pivoted ≡ true
  pub pivot : w.walk.pivot ≡ at
  pub call_is : w.walk.call ≡ call
  pub book_is : w.book ≡ with_seen book at
  pub marked : Marked 0 c w.walk.notes uses

-- this many of the notes are checked since the pivot, before which the view was this
pub record IsChecking (call : Request) (answer : Answer) (uses : List Use) (before : View) (at c : ℕ) (w : View) : Type 0 where
  pub loads : w.loads ≤ before.loads + 1 + c
  pub first_load : w.first_load ≡ before.first_load
  pub more : c < length uses → IsOpen call uses before.book at c w
  pub done : c ≡ length uses → w.book ≡ noted_in before.book call answer at

-- the cause is a check of this walk that found a higher count
abbrev pub IsChanged : View → rust_why.Why → Type 0
IsChanged v (whys.Changed row noted found) = Contains v.faults (Changed row noted found) × (noted < found)
IsChanged v other = ⊥

-- a check failed, and nothing is recorded
pub record Unsettled (before now : View) (why : rust_why.Why) : Type 0 where
  pub changed : IsChanged now why
  pub nothing : NothingNew before now

-- the answer was recorded at the pivot, and nothing else was; or a check failed
abbrev pub Settled : Request → (before now : View) → rust_fast.Fast → Type 0
Settled call before now (fasts.Done stamped) = (now.book ≡ noted_in before.book call (reply_shown stamped.reply) stamped.at) × (before.book.seen ≤ stamped.at)
Settled call before now (fasts.Again why) = Unsettled before now why
