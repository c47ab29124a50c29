-- The core as plain data, and what each event makes of it.
use Rattle.std.specs.Prelude.{ℕ, ◌+◌, Bool, true, false, List, [], ◌∷◌, ◌++◌, length, get_or, set, replicate, Option, Some, None}
use Rattle.dc_plain.specs.Trees.{Tree, empty_tree}
use Rattle.dc_plain.specs.Requests.{Request, Answer}
use Rattle.dc_plain.specs.Runs.{reply_of, tree_after}
use Rattle.dc_events.specs.Views.{Walk}
use Rattle.dc_events.specs.Rows.{base_of, count, opening_words}
use Rattle.dc_events.specs.Walks.{walk_begun, walk_again, no_walk, note_of, last_of, walk_noted, walk_read, walk_turned, walk_marked}
use Rattle.dc_events.specs.Noted.{answer_in}
use Rattle.dc_events.specs.Effects.{nobody}

pub record Actor : Type 0 where
  pub walk : Walk
  pub seen : ℕ
  pub holds : Bool
  pub loads : ℕ

pub record Finished : Type 0 where
  pub actor : ℕ
  pub call : Request
  pub reply : Answer
  pub at : ℕ

pub record State : Type 0 where
  pub limit : ℕ
  pub rows : ℕ
  pub words : List ℕ
  pub tree : Tree
  pub actors : List Actor
  pub finished : List Finished

pub data Act : Type 0 where
  Begin : Request → Act
  Take : Act
  Shut : ℕ → Act
  Write : ℕ → ℕ → ℕ → Act
  Open : ℕ → Act
  Commit : Act
  Give : Bool → Act
  Note : ℕ → Act
  Read : Act
  Pivot : Act
  Check : ℕ → Act
  Again : Act
  Quit : Act

pub record Event : Type 0 where
  pub actor : ℕ
  pub act : Act

abbrev pub event_by : ℕ → Act → Event
event_by actor act = record { actor = actor; act = act }

abbrev pub idle : Actor
idle = record { walk = nobody.walk; seen = 0; holds = false; loads = 0 }

-- a core as it is made: empty rows, a free lock, the root directory alone, actors without calls
abbrev pub opening : ℕ → ℕ → ℕ → State
opening limit rows actors = record { limit = limit; rows = rows; words = opening_words rows; tree = empty_tree; actors = replicate actors idle; finished = [] }

abbrev pub actor_at : State → ℕ → Actor
actor_at s j = get_or s.actors j idle

abbrev pub clock_of : State → ℕ
clock_of s = get_or s.words 0 0

abbrev pub with_actor : State → ℕ → Actor → State
with_actor s j a = record s { actors = set s.actors j a }

abbrev pub with_word : State → ℕ → ℕ → State
with_word s k x = record s { words = set s.words k x }

abbrev pub with_finished : State → ℕ → Request → Answer → ℕ → State
with_finished s j call reply at = record s { finished = s.finished ++ record { actor = j; call = call; reply = reply; at = at } ∷ [] }

-- the actor's walk becomes this one by one more load
abbrev pub walking : Actor → Walk → Actor
walking a w = record a { walk = w; loads = a.loads + 1 }

abbrev pub having_noted : Actor → ℕ → ℕ → Actor
having_noted a row count = walking a (walk_noted a.walk row count)

abbrev pub having_read : Actor → ℕ → Actor
having_read a word = walking a (walk_read a.walk word)

abbrev pub having_checked : Actor → ℕ → Actor
having_checked a i = walking a (walk_marked a.walk i)

abbrev pub gone_again : Actor → Actor
gone_again a = record a { walk = walk_again a.walk }

-- by a load of the clock, which is the pivot of an unanswered call
abbrev pub turning : Actor → ℕ → Actor
turning a clock = record (walking a (walk_turned a.walk clock)) { seen = clock }

-- what the checked notes answer is recorded at the pivot
abbrev pub concluding : State → ℕ → Actor → Option Answer → State
concluding s j a None = with_actor s j a
concluding s j a (Some reply) = with_finished (with_actor s j (record a { walk = no_walk })) j a.walk.call reply a.walk.pivot

-- the actor, and the record, if any, after such an answer
abbrev pub ended : Actor → Option Answer → Actor
ended a None = a
ended a (Some reply) = record a { walk = no_walk }

abbrev pub recorded : ℕ → Actor → Option Answer → List Finished
recorded j a None = []
recorded j a (Some reply) = record { actor = j; call = a.walk.call; reply = reply; at = a.walk.pivot } ∷ []

abbrev pub settling : State → ℕ → Actor → State
settling s j a = concluding s j a (answer_in a.walk)

abbrev pub counted_up : State → ℕ → State
counted_up s row = with_word s (base_of row) (count s.words row + 1)

-- what the last note of a walk reads next
abbrev pub next_word : State → Walk → ℕ
next_word s w = let x = note_of w (last_of w) in get_or s.words (base_of x.row + (length x.words + 1)) 0

abbrev pub done : State → ℕ → Act → State
done s j (Begin call) = with_actor s j (record (actor_at s j) { walk = walk_begun call })
done s j Take = with_actor (with_word s 1 1) j (record (actor_at s j) { holds = true; seen = clock_of s })
done s j (Shut row) = counted_up s row
done s j (Write row i x) = with_word s (base_of row + i) x
done s j (Open row) = counted_up s row
done s j Commit = let a = actor_at s j in
    with_finished (record (with_actor (with_word s 0 (clock_of s + 1)) j (record a { walk = no_walk; seen = clock_of s + 1 })) { tree = tree_after s.limit s.tree a.walk.call })
    j a.walk.call (reply_of s.limit s.tree a.walk.call) (clock_of s)
done s j (Give false) = with_actor (with_word s 1 0) j (record (actor_at s j) { holds = false })
done s j (Give true) = let a = actor_at s j in
    with_finished (with_actor (with_word s 1 0) j (record a { walk = no_walk; seen = clock_of s; holds = false })) j a.walk.call (reply_of s.limit s.tree a.walk.call) (clock_of s)
done s j (Note row) = with_actor s j (having_noted (actor_at s j) row (count s.words row))
done s j Read = with_actor s j (having_read (actor_at s j) (next_word s (actor_at s j).walk))
done s j Pivot = settling s j (turning (actor_at s j) (clock_of s))
done s j (Check i) = settling s j (having_checked (actor_at s j) i)
done s j Again = with_actor s j (gone_again (actor_at s j))
done s j Quit = with_actor s j (record (actor_at s j) { walk = no_walk })

abbrev pub after : State → Event → State
after s e = done s e.actor e.act

-- after all of the events
abbrev pub after_all : State → List Event → State
after_all s [] = s
after_all s (e ∷ es) = after_all (after s e) es
