-- A list of events: which of them were done, why the next was refused, and where the calls begin and end in it.
use Rattle.std.specs.Prelude.{◌≡◌, ℕ, List, [], ◌∷◌, take, None, Result, Ok, Err}
use mathlib.Core.Option.{some}
use lib.ListN.{get_elem?}
use Rattle.dc_core.specs.Machine.{State, Event, Finished, after, after_all, opening}
use Rattle.dc_core.specs.Refusals.{Answers}
use Rattle.dc_core.specs.Memory.{RefusedAs}
use Rattle.dc_core.specs.Spans.{Spanned}
use Rattle.dc_core.specs.declared.refused.Refused as rust_refused

-- all events, or those before the place of the refused one
abbrev pub done_of : {A : Type 0} → Result A (ℕ × rust_refused.Refused) → List Event → List Event
done_of (Ok value) es = es
done_of (Err stop) es = take stop.0 es

-- no event of the list is refused
abbrev pub AllDone : State → List Event → Type 0
AllDone s [] = Unit {0}
AllDone s (e ∷ es) = Answers s e None × AllDone (after s e) es

-- the event at this place is refused for this
abbrev pub StopsFor : State → List Event → ℕ → rust_refused.Refused → Type 0
StopsFor s es place why = (e : Event) × (get_elem? es place ≡ some e) × RefusedAs s e why

-- a core as it is made
abbrev pub IsNew : State → Type 0
IsNew s = (limit : ℕ) × (rows : ℕ) × (actors : ℕ) × (s ≡ opening limit rows actors)

-- each record after the events has its start, its point and its end among them
abbrev pub AreSpanned : State → List Event → Type 0
AreSpanned s es = (m : ℕ) (f : Finished) → get_elem? (after_all s es).finished m ≡ some f → Spanned s es m f
