-- The rule of the core: that of the shared words, over views made of what the core stores and a history that it does not store.
use Rattle.std.specs.Prelude.{◌≡◌, ℕ, suc, ◌==◌, Bool, true, false, ◌<◌, List, [], ◌∷◌, length, map, if◌then◌else◌}
use mathlib.Core.Option.{some}
use lib.ListN.{get_elem?}
use Rattle.dc_plain.specs.Requests.{Request}
use Rattle.dc_events.specs.Views.{Record, Hold, View}
use Rattle.dc_events.specs.Standing.{tree_of}
use Rattle.dc_events.specs.Rule.{Rule}
use Rattle.dc_plain.specs.Legal.{Stamp, IsLegal}
use Rattle.dc_events.specs.Effects.{empty_hold}
use Rattle.dc_core.specs.Machine.{State, Actor, Finished}

-- a record with its actor
pub record Done : Type 0 where
  pub actor : ℕ
  pub record_made : Record

abbrev pub finished_of : Done → Finished
finished_of d = record { actor = d.actor; call = d.record_made.call; reply = d.record_made.reply; at = d.record_made.at }

-- the records of one actor
abbrev pub strand : ℕ → List Done → List Record
strand j [] = []
strand j (d ∷ ds) = if d.actor == j then d.record_made ∷ strand j ds else strand j ds

abbrev pub hold_of : Bool → List ℕ → List Request → Hold
hold_of true words hist = record { holds = true; history = hist; words = words }
hold_of false words hist = empty_hold

abbrev pub view_of : List ℕ → List Request → List Done → ℕ → Actor → View
view_of words hist ds j a = record { walk = a.walk; book = record { seen = a.seen; own = strand j ds; joined = [] }; hold = hold_of a.holds words hist; loads = a.loads; first_load = 0; faults = [] }

abbrev pub views_from : List ℕ → List Request → List Done → ℕ → List Actor → List View
views_from words hist ds j [] = []
views_from words hist ds j (a ∷ rest) = view_of words hist ds j a ∷ views_from words hist ds (suc j) rest

pub record LivesWith (s : State) (hist : List Request) (ds : List Done) : Type 0 where
  pub rule : Rule s.limit s.rows s.words (views_from s.words hist ds 0 s.actors) hist
  pub tree : s.tree ≡ tree_of s.limit hist
  pub finished : s.finished ≡ map finished_of ds
  pub known : (i : ℕ) (d : Done) → get_elem? ds i ≡ some d → d.actor < length s.actors

abbrev pub Lives : State → Type 0
Lives s = (hist : List Request) × (ds : List Done) × LivesWith s hist ds

-- the records of each actor, in the order in which they were made
abbrev pub strands : List Done → ℕ → List Actor → List (List Record)
strands ds k [] = []
strands ds k (a ∷ rest) = strand k ds ∷ strands ds (suc k) rest

-- a finished call as a stamp
abbrev pub stamp_of : Finished → Stamp
stamp_of f = record { actor = f.actor; request = f.call; answer = f.reply; at = f.at }

-- the finished calls, in some order that keeps each actor's, are a run of one thread on one plain tree
abbrev pub AreLegal : State → Type 0
AreLegal s = IsLegal s.limit (map stamp_of s.finished)
