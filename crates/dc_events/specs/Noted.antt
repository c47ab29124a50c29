-- What the checked notes of a walk answer.
use Rattle.std.specs.Prelude.{ℕ, Bool, true, false, List, [], ◌∷◌, Option, Some, None, if◌then◌else◌}
use Rattle.dc_plain.specs.Facts.{Fact, told_by}
use Rattle.dc_plain.specs.Requests.{Answer}
use Rattle.dc_plain.specs.FactLaws.{answer_told}
use Rattle.dc_row.specs.Decoding.{fact_in}
use Rattle.dc_events.specs.Views.{Note, Walk}
use Rattle.dc_events.specs.Rows.{note_words}

abbrev pub with_fact : Option (Option Fact) → List Fact → List Fact
with_fact None facts = facts
with_fact (Some None) facts = facts
with_fact (Some (Some fact)) facts = fact ∷ facts

abbrev pub facts_if : Bool → List ℕ → List Fact → List Fact
facts_if true words facts = with_fact (fact_in words) facts
facts_if false words facts = facts

-- the facts of the checked notes
abbrev pub facts_in : List Note → List Fact
facts_in [] = []
facts_in (x ∷ xs) = facts_if x.checked (note_words x) (facts_in xs)

-- what the checked notes answer to the call
abbrev pub answer_in : Walk → Option Answer
answer_in w = if w.busy then answer_told (told_by (facts_in w.notes)) w.call else None
