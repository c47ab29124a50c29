-- What an answered call leaves in the pass, and what a call without an answer leaves in it.
use Rattle.std.specs.Prelude.{◌≡◌, ℕ, ◌≤◌, List, Result, Ok, Err, length, ⊤}
use Rattle.dc_ops.specs.Reads.{IsAtLength}
use Rattle.dc_plain.specs.Requests.{Request, answer_of}
use Rattle.dc_plain.specs.Runs.{reply_of}
use Rattle.dc_plain.specs.declared.call.Stamped.{Stamped}
use Rattle.dc_events.specs.Effects.{pivoted, quit}
use Rattle.dc_events.specs.Standing.{tree_of}
use Rattle.dc_events.specs.Views.{View}
use Rattle.dc_rows.specs.Changes.{Failed}
use Rattle.dc_rows.specs.declared.fault.ChangeFault.{ChangeFault}
use Rattle.dc_table.specs.Changes.{NothingNew, Recorded}
use Rattle.dc_walk.specs.declared.answer.Fast.{Fast}
use Rattle.dc_walk.specs.declared.answer.Fast.TheVariants as fasts
use Rattle.dc_cache.specs.Passes.{known, share, view}
use Rattle.dc_cache.specs.declared.cache.Pass.{Pass}

-- the pass recorded this call alone, with this reply at this point
abbrev pub Answered : Pass → Pass → Request → Stamped → Type 0
Answered p q call stamped = Recorded (view p) (view q) call (answer_of stamped.reply) stamped.at

-- a look-up by the rows alone was answered, or nothing is recorded
abbrev pub IfFast : Pass → Pass → Request → Fast → Type 0
IfFast p q call (fasts.Done stamped) = Answered p q call stamped
IfFast p q call (fasts.Again _) = NothingNew (view p) (view q)

-- it was answered
abbrev pub IsDone : Fast → Type 0
IsDone (fasts.Done _) = ⊤
IsDone (fasts.Again _) = ⊥

-- the clock was loaded, and is what the pass has seen now; nothing else was done
pub record Loaded (v w : View) : Type 0 where
  pub clock : ℕ
  pub later : v.book.seen ≤ clock
  pub now : w ≡ pivoted (quit v) clock
  pub seen : w.book.seen ≡ clock

-- nothing is recorded, and the reply would be no refusal: after this history, of as many changes as were seen, it is a text or names
pub record Starved (limit : ℕ) (history : List Request) (v w : View) (call : Request) : Type 0 where
  pub nothing : NothingNew v w
  pub seen : w.book.seen ≡ length history
  pub long : IsAtLength (reply_of limit (tree_of limit history) call)

-- a read whose answer takes memory was answered, or memory was refused for it on the tree after this history
abbrev pub ToldTo : {E : Type 0} → ℕ → List Request → View → View → Request → Result Stamped E → Type 0
ToldTo limit history v w call (Ok stamped) = Recorded v w call (answer_of stamped.reply) stamped.at
ToldTo limit history v w call (Err fault) = Starved limit history v w call

abbrev pub Told : {E : Type 0} → Pass → Pass → Request → Result Stamped E → Type 0
Told p q call told = ToldTo (share p).limit (known q).got.history (view p) (view q) call told

-- a change was answered, or it failed
abbrev pub Made : Pass → Pass → Request → Result Stamped ChangeFault → Type 0
Made p q call (Ok stamped) = Answered p q call stamped
Made p q call (Err fault) = Failed (share p).limit (known q).got.history (view p) (view q) call fault
