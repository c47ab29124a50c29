-- What a call leaves in the view of its pass.
use Rattle.std.specs.Prelude.{◌≡◌, ℕ, ◌≤◌, ◌<◌, Bool, true, List, [], ◌∷◌, ◌++◌, length}
use Rattle.dc_plain.specs.Trees.{Tree}
use Rattle.dc_plain.specs.Requests.{Request, Answer}
use Rattle.dc_events.specs.Views.{View}
use Rattle.dc_events.specs.Standing.{tree_of}
use Rattle.dc_events.specs.Rows.{most}
use Rattle.dc_events.specs.Effects.{with_seen, empty_hold}
use Rattle.dc_table.specs.Passes.{Pass, view, share}

abbrev pub with_words : View → List ℕ → View
with_words v words = record v { hold = record v.hold { words = words } }

abbrev pub words_of : Pass → List ℕ
words_of p = (view p).hold.words

-- the tree that the holder of the lock has
abbrev pub tree_now : Pass → Tree
tree_now p = tree_of (share p).limit (view p).hold.history

-- the view has recorded this call alone, at a point that is not before what it had seen; what it has seen then is not before that, and past it if the call altered the tree
pub record Recorded (v w : View) (call : Request) (reply : Answer) (at : ℕ) : Type 0 where
  pub altered : Bool
  pub own : w.book.own ≡ v.book.own ++ record { call = call; reply = reply; at = at; altered = altered } ∷ []
  pub joined : w.book.joined ≡ v.book.joined
  pub later : v.book.seen ≤ at
  pub seen : at ≤ w.book.seen
  pub past : altered ≡ true → at < w.book.seen

-- nothing is recorded
pub record NothingNew (v w : View) : Type 0 where
  pub own : w.book.own ≡ v.book.own
  pub joined : w.book.joined ≡ v.book.joined
  pub later : v.book.seen ≤ w.book.seen

-- what a pass that has just got the lock has seen
pub record IsTaken (v : View) : Type 0 where
  pub early : length v.hold.history ≤ most
  pub seen : v.book.seen ≡ length v.hold.history

-- the pass had the lock, and has it no more: it has seen a later clock, and its walk and its records are as they were
pub record Rested (v w : View) : Type 0 where
  pub clock : ℕ
  pub later : v.book.seen ≤ clock
  pub same : w ≡ record v { book = with_seen v.book clock; hold = empty_hold }
