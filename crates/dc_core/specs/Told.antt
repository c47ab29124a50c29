-- The rows that the checked notes of a walk spell.
use Rattle.std.specs.Prelude.{◌≡◌, ℕ, true, Bool, List, [], ◌∷◌, set, Option, Some, IsTrue}
use Rattle.dc_plain.specs.Facts.{Fact}
use Rattle.dc_row.specs.Rows.{row_shown}
use Rattle.dc_row.specs.Spelling.{Spells, has_spelling}
use Rattle.dc_row.specs.declared.row.Row.{Row}
use Rattle.dc_events.specs.Views.{Note}
use Rattle.dc_events.specs.Rows.{note_words}
use Rattle.dc_events.specs.Noted.{facts_if, with_fact}
use Rattle.dc_events.specs.Walks.{note_of}
use Rattle.dc_core.specs.Machine.{Actor}

-- a note that is checked spells a row
abbrev pub IsSpelled : Note → Type 0
IsSpelled x = x.checked ≡ true → (fact : Option Fact) × Spells (note_words x) fact

abbrev pub AreSpelled : List Note → Type 0
AreSpelled [] = Unit {0}
AreSpelled (x ∷ xs) = IsSpelled x × AreSpelled xs

-- the fact of a note, if it is checked and has one
abbrev pub told_in : Note → List Fact
told_in x = facts_if x.checked (note_words x) []

-- the facts of rows, of which an empty one has none
abbrev pub facts_told : List Row → List Fact
facts_told [] = []
facts_told (r ∷ rs) = with_fact (Some (row_shown r)) (facts_told rs)

-- rows that words can spell
abbrev pub AreRows : List Row → Type 0
AreRows [] = Unit {0}
AreRows (r ∷ rs) = IsTrue (has_spelling (row_shown r)) × AreRows rs

abbrev pub with_mark : Actor → ℕ → Bool → Actor
with_mark a i checked = record a { walk = record a.walk { notes = set a.walk.notes i (record (note_of a.walk i) { checked = checked }) } }
