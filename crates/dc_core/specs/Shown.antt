-- What the core of the program stands for.
use Rattle.std.specs.Prelude.{ℕ, List, map, drop, get_or, Option, Some, None, is_some, option_map}
use Rattle.dc_plain.specs.OwnCalls.{own_request}
use Rattle.dc_plain.specs.Machines.{Machine}
use Rattle.dc_plain.specs.Requests.{Request, Answer, request_of, answer_of}
use Rattle.dc_plain.specs.Runs.{reply_of, tree_after}
use Rattle.dc_plain.specs.Trees.{Tree}
use Rattle.dc_plain.specs.declared.call.Reply.{Reply}
use Rattle.dc_plain.specs.declared.own_call.OwnCall.{OwnCall}
use Rattle.dc_events.specs.Views.{Note as Noted, Walk}
use Rattle.dc_events.specs.Walks.{no_walk}
use Rattle.dc_core.specs.Machine.{Act, Event, Actor, Finished, State, recorded}
use Rattle.dc_core.specs.Machine.Act.{Begin, Take, Shut, Write, Open, Commit, Give, Note, Read, Pivot, Check, Again, Quit}
use Rattle.dc_core.specs.Refusals.{Refusal}
use Rattle.dc_core.specs.declared.actor.Note as rust_note
use Rattle.dc_core.specs.declared.actor.Actor as rust_actor
use Rattle.dc_core.specs.declared.state.Finished as rust_finished
use Rattle.dc_core.specs.declared.state.State as rust_state
use Rattle.dc_core.specs.declared.event.Act as rust_act
use Rattle.dc_core.specs.declared.event.Act.TheVariants as acts
use Rattle.dc_core.specs.declared.event.Event as rust_event
use Rattle.dc_core.specs.declared.refused.Refused as rust_refused
use Rattle.dc_core.specs.declared.refused.Refused.TheVariants as refusals

abbrev pub note_shown : rust_note.Note → Noted
note_shown x = record { row = x.row; count = get_or x.words.items 0 0; words = drop 1 x.words.items; checked = x.checked }

abbrev pub number_or_zero : Option ℕ → ℕ
number_or_zero None = 0
number_or_zero (Some n) = n

abbrev pub call_shown : Option OwnCall → Request
call_shown None = no_walk.call
call_shown (Some call) = own_request call

abbrev pub walk_shown : Option OwnCall → List rust_note.Note → Option ℕ → Walk
walk_shown call notes pivot = record { busy = is_some call; call = call_shown call; notes = map note_shown notes; pivoted = is_some pivot; pivot = number_or_zero pivot }

abbrev pub actor_shown : rust_actor.Actor → Actor
actor_shown a = record { walk = walk_shown a.call a.notes.items a.pivot; seen = a.seen; holds = a.holds; loads = a.loads }

abbrev pub finished_shown : rust_finished.Finished → Finished
finished_shown f = record { actor = f.actor; call = own_request f.call; reply = answer_of f.reply; at = f.at }

abbrev pub all_shown : List rust_finished.Finished → List Finished
all_shown fs = map finished_shown fs

-- the record that a reply makes, if there is one
abbrev pub made_by : ℕ → rust_actor.Actor → Option Reply → List Finished
made_by j a reply = recorded j (actor_shown a) (option_map answer_of reply)

-- the unanswered call of an actor
abbrev pub call_of : rust_actor.Actor → Request
call_of a = (actor_shown a).walk.call

-- the reply of a call on a tree of the program, and the tree after it
abbrev pub reply_in : Machine → Request → Answer
reply_in t call = reply_of t.limit t.tree call

abbrev pub tree_in : Machine → Request → Tree
tree_in t call = tree_after t.limit t.tree call

abbrev pub state_of : rust_state.State → State
state_of s = record {
  limit = s.tree.limit;
  rows = s.rows;
  words = s.words.items;
  tree = s.tree.tree;
  actors = map actor_shown s.actors.items;
  finished = map finished_shown s.finished.items;
}

abbrev pub act_shown : rust_act.Act → Act
act_shown (acts.Begin call) = Begin (request_of call)
act_shown acts.Take = Take
act_shown (acts.Shut row) = Shut row
act_shown (acts.Write row word value) = Write row word value
act_shown (acts.Open row) = Open row
act_shown acts.Commit = Commit
act_shown (acts.Give answer) = Give answer
act_shown (acts.Note row) = Note row
act_shown acts.Read = Read
act_shown acts.Pivot = Pivot
act_shown (acts.Check i) = Check i
act_shown acts.Again = Again
act_shown acts.Quit = Quit

abbrev pub event_shown : rust_event.Event → Event
event_shown e = record { actor = e.actor; act = act_shown e.act }

-- running out of memory is no refusal of the table
abbrev pub refusal_shown : rust_refused.Refused → Option Refusal
refusal_shown refusals.Actor = Some Refusal.Actor
refusal_shown refusals.Holder = Some Refusal.Holder
refusal_shown refusals.Unfinished = Some Refusal.Unfinished
refusal_shown refusals.Held = Some Refusal.Held
refusal_shown refusals.NotHolder = Some Refusal.NotHolder
refusal_shown refusals.NoRow = Some Refusal.NoRow
refusal_shown refusals.Odd = Some Refusal.Odd
refusal_shown refusals.Even = Some Refusal.Even
refusal_shown refusals.Spent = Some Refusal.Spent
refusal_shown refusals.NoWord = Some Refusal.NoWord
refusal_shown refusals.Untrue = Some Refusal.Untrue
refusal_shown refusals.NoCall = Some Refusal.NoCall
refusal_shown refusals.Unaltered = Some Refusal.Unaltered
refusal_shown refusals.Full = Some Refusal.Full
refusal_shown (refusals.Touched row) = Some (Refusal.Touched row)
refusal_shown (refusals.OddRow row) = Some (Refusal.OddRow row)
refusal_shown refusals.Alters = Some Refusal.Alters
refusal_shown refusals.Late = Some Refusal.Late
refusal_shown refusals.Early = Some Refusal.Early
refusal_shown refusals.NoNote = Some Refusal.NoNote
refusal_shown (refusals.Changed row noted found) = Some (Refusal.Changed row noted found)
refusal_shown refusals.NoMemory = None
