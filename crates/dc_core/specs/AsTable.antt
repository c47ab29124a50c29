-- Each event is a step of the table: what it makes of its actor's view is the effect of that name.
use Rattle.std.specs.Prelude.{◌≡◌, ◌≢◌, ℕ, ◌+◌, true, false, List, [], ◌∷◌, ◌++◌, set, None}
use mathlib.Core.Option.{some}
use lib.ListN.{get_elem?}
use Rattle.dc_plain.specs.Requests.{Request}
use Rattle.dc_events.specs.Views.{View}
use Rattle.dc_events.specs.Rows.{base_of, count}
use Rattle.dc_events.specs.Effects.{begun, again, quit, taken, wrote, committed, gave, answered, noted, read, pivoted, checked}
use Rattle.dc_core.specs.Machine.{State, Actor, Act, Event, actor_at, after, clock_of, next_word}
use Rattle.dc_core.specs.Machine.Act.{Begin, Take, Shut, Write, Open, Commit, Give, Note, Read, Pivot, Check, Again, Quit}
use Rattle.dc_core.specs.Refusals.{Answers}
use Rattle.dc_core.specs.Lives.{Done, view_of, LivesWith}

-- what an act makes of its actor's view
abbrev pub effect : State → List Request → View → Act → View
effect s hist v (Begin call) = begun v call
effect s hist v Take = taken v (set s.words 1 1) hist
effect s hist v (Shut row) = wrote v (base_of row) (count s.words row + 1)
effect s hist v (Write row i x) = wrote v (base_of row + i) x
effect s hist v (Open row) = wrote v (base_of row) (count s.words row + 1)
effect s hist v Commit = committed s.limit v v.walk.call
effect s hist v (Give false) = gave v
effect s hist v (Give true) = answered s.limit v v.walk.call
effect s hist v (Note row) = noted v row (count s.words row)
effect s hist v Read = read v (next_word s v.walk)
effect s hist v Pivot = pivoted v (clock_of s)
effect s hist v (Check i) = checked v i
effect s hist v Again = again v
effect s hist v Quit = quit v

-- and of the history
abbrev pub history_after : List Request → Actor → Act → List Request
history_after hist a Commit = hist ++ a.walk.call ∷ []
history_after hist a _ = hist

-- the views are one in all that the core stores, which is neither faults nor what was loaded as the walk began
pub record Agrees (u v : View) : Type 0 where
  pub walk : u.walk ≡ v.walk
  pub book : u.book ≡ v.book
  pub hold : u.hold ≡ v.hold
  pub loads : u.loads ≡ v.loads

-- the core before and after an event has the views and the history of a table on which its actor did this act
pub record IsStep (s : State) (hist : List Request) (ds : List Done) (e : Event) : Type 0 where
  -- the records after the event
  pub next : List Done
  pub lives : LivesWith (after s e) (history_after hist (actor_at s e.actor) e.act) next
  -- the actor's view is the effect of its act on its view before
  pub mine : Agrees (view_of (after s e).words (history_after hist (actor_at s e.actor) e.act) next e.actor (actor_at (after s e) e.actor)) (effect s hist (view_of s.words hist ds e.actor (actor_at s e.actor)) e.act)
  -- and every other view is as it was
  pub others : (j : ℕ) (u : Actor) → j ≢ e.actor → get_elem? s.actors j ≡ some u → view_of s.words hist ds j u ≡ view_of (after s e).words (history_after hist (actor_at s e.actor) e.act) next j u

-- so of each event that is not refused
abbrev pub EventsAreSteps : Type 0
EventsAreSteps = (s : State) (e : Event) (hist : List Request) (ds : List Done) → LivesWith s hist ds → Answers s e None → IsStep s hist ds e
