-- What a call that tells where a directory is records, and what it says of the tree of its hold.
use Rattle.std.specs.Prelude.{◌≡◌, ℕ, List, [], ◌∷◌, drop, Result, Ok, Err}
use Rattle.std.specs.Borrow.{MutBor}
use Rattle.dc_names.specs.declared.kind.Kind.TheVariants.{Dir}
use Rattle.dc_names.specs.declared.refusal.Refusal.{Refusal}
use Rattle.dc_ops.specs.Whereabouts.{HasNoPath, IsPathOf}
use Rattle.dc_plain.specs.declared.call.Follow.TheVariants as follow
use Rattle.dc_plain.specs.Requests.{Answer, Request}
use Rattle.dc_plain.specs.Requests.Answer.{Found}
use Rattle.dc_plain.specs.Requests.Request.{Look}
use Rattle.dc_events.specs.Standing.{tree_of}
use Rattle.dc_events.specs.Views.{View}
use Rattle.dc_rows.specs.Guards.{rows_of, seat_of}
use Rattle.dc_rows.specs.declared.guard.Guard.{Guard}
use Rattle.dc_table.specs.Changes.{Recorded}
use Rattle.dc_table.specs.Passes as seats
use Rattle.dc_cache.specs.Passes.{known, share, view}
use Rattle.dc_cache.specs.declared.cache.Pass.{Pass}
use Rattle.dc_cache.specs.declared.whereabouts.Whereabouts.{Whereabouts}

-- from a place up to a buffer's end stands the directory's path after this history, and a look-up of that very path is recorded, which finds the directory
pub record TellsPath (limit : ℕ) (history : List Request) (v w : View) (number : ℕ) (buffer : List ℕ) (start at : ℕ) : Type 0 where
  pub path : IsPathOf (tree_of limit history) number (drop start buffer)
  pub recorded : Recorded v w (Look 1 (drop start buffer) follow.No) (Found number Dir) at

-- after this history the number has no path for this cause, and a look-up of its own dot is recorded
pub record TellsNone (limit : ℕ) (history : List Request) (v w : View) (number : ℕ) (refusal : Refusal) (at : ℕ) : Type 0 where
  pub none : HasNoPath (tree_of limit history) number refusal
  pub reply : Answer
  pub recorded : Recorded v w (Look number (46 ∷ []) follow.Dir) reply at

abbrev pub TellsBy : ℕ → List Request → View → View → ℕ → List ℕ → ℕ → Result ℕ Refusal → Type 0
TellsBy limit history v w number buffer at (Ok start) = TellsPath limit history v w number buffer start at
TellsBy limit history v w number buffer at (Err refusal) = TellsNone limit history v w number refusal at

abbrev pub TellsWhere : ℕ → List Request → View → View → ℕ → List ℕ → Whereabouts → Type 0
TellsWhere limit history v w number buffer told = TellsBy limit history v w number buffer told.at told.start

-- by a guard's pass, and by a pass that got the lock for it
abbrev pub TellsHeld : Guard → MutBor seats.Pass → ℕ → List ℕ → Whereabouts → Type 0
TellsHeld g back = TellsWhere (seats.share (seat_of g)).limit (rows_of g).history (seats.view (seat_of g)) (seats.view back.now)

abbrev pub Locates : Pass → Pass → ℕ → List ℕ → Whereabouts → Type 0
Locates p q = TellsWhere (share p).limit (known q).got.history (view p) (view q)
