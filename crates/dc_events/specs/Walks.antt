-- What each event makes of its actor's walk.
use Rattle.std.specs.Prelude.{ℕ, ◌-◌, true, false, [], ◌∷◌, ◌++◌, length, get_or, set, if◌then◌else◌}
use Rattle.dc_plain.specs.Requests.{Request}
use Rattle.dc_plain.specs.Requests.Request.{Look}
use Rattle.dc_plain.specs.declared.call.Follow.TheVariants.{Yes}
use Rattle.dc_events.specs.Views.{Note, Walk}

abbrev pub walk_begun : Request → Walk
walk_begun call = record { busy = true; call = call; notes = []; pivoted = false; pivot = 0 }

abbrev pub walk_again : Walk → Walk
walk_again w = record w { notes = []; pivoted = false; pivot = 0 }

-- no call is unanswered
abbrev pub no_walk : Walk
no_walk = record { busy = false; call = Look 1 [] Yes; notes = []; pivoted = false; pivot = 0 }

abbrev pub no_note : Note
no_note = record { row = 0; count = 0; words = []; checked = false }

abbrev pub note_of : Walk → ℕ → Note
note_of w i = get_or w.notes i no_note

abbrev pub last_of : Walk → ℕ
last_of w = length w.notes - 1

abbrev pub extended : Note → ℕ → Note
extended x word = record x { words = x.words ++ word ∷ [] }

abbrev pub walk_noted : Walk → ℕ → ℕ → Walk
walk_noted w row found = record w { notes = w.notes ++ record { row = row; count = found; words = []; checked = false } ∷ [] }

-- the last note gets one word more
abbrev pub walk_read : Walk → ℕ → Walk
walk_read w word = record w { notes = set w.notes (last_of w) (extended (note_of w (last_of w)) word) }

abbrev pub walk_turned : Walk → ℕ → Walk
walk_turned w clock = record w { pivoted = w.busy; pivot = if w.busy then clock else 0 }

abbrev pub walk_marked : Walk → ℕ → Walk
walk_marked w i = record w { notes = set w.notes i (record (note_of w i) { checked = true }) }
