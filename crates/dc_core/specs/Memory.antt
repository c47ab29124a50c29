-- Which events may be answered with out of memory, and what an event is answered at all.
use Rattle.std.specs.Prelude.{◌≡◌, Bool, true, false, Option, Some, None, Result, Ok, Err}
use Rattle.dc_core.specs.Machine.{Act, State, Event}
use Rattle.dc_core.specs.Machine.Act.{Begin, Commit, Give, Note, Read, Pivot, Check}
use Rattle.dc_core.specs.Refusals.{Refusal, Answers}
use Rattle.dc_core.specs.Refusals.Refusal.{Unaltered, Full, Touched, Alters}
use Rattle.dc_core.specs.Shown.{refusal_shown}
use Rattle.dc_core.specs.declared.refused.Refused as rust_refused

-- the acts that copy a call, make a walk longer, or make a record
abbrev pub takes_memory : Act → Bool
takes_memory (Begin call) = true
takes_memory Commit = true
takes_memory (Give answer) = answer
takes_memory (Note row) = true
takes_memory Read = true
takes_memory Pivot = true
takes_memory (Check i) = true
takes_memory _ = false

-- the refusals whose tests take memory, or come after one that does
abbrev pub gives_way : Refusal → Bool
gives_way Unaltered = true
gives_way Full = true
gives_way (Touched row) = true
gives_way Alters = true
gives_way _ = false

-- out of memory, of an act that takes some, stands in the place of one of these, or comes last
abbrev pub MayLackMemory : State → Event → Type 0
MayLackMemory s e = (takes_memory e.act ≡ true) × ((why : Refusal) → Answers s e (Some why) → gives_way why ≡ true)

-- a refusal as some tests have it, or out of memory if it may be
abbrev pub RefusedBy : (Option Refusal → Type 0) → Type 0 → Option Refusal → Type 0
RefusedBy Tests MayLack None = MayLack
RefusedBy Tests MayLack (Some why) = Tests (Some why)

-- that, or all of the tests are passed
abbrev pub TestedBy : {A : Type 0} → (Option Refusal → Type 0) → Type 0 → Result A rust_refused.Refused → Type 0
TestedBy Tests MayLack (Ok value) = Tests None
TestedBy Tests MayLack (Err why) = RefusedBy Tests MayLack (refusal_shown why)

-- an event is refused for this
abbrev pub RefusedAs : State → Event → rust_refused.Refused → Type 0
RefusedAs s e why = RefusedBy (Answers s e) (MayLackMemory s e) (refusal_shown why)

-- what an event is answered: done, or refused
abbrev pub AnsweredAs : {A : Type 0} → State → Event → Result A rust_refused.Refused → Type 0
AnsweredAs s e result = TestedBy (Answers s e) (MayLackMemory s e) result
