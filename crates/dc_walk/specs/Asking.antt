-- The state of a walk, and the keys that it asks for.
use Rattle.std.specs.Prelude.{◌≡◌, ℕ, ◌+◌, ◌*◌, ◌<◌, ◌≤◌, List, ◌++◌, true, false, Option, length}
use Rattle.std.specs.List.{Contains}
use Rattle.dc_plain.specs.Facts.{Key, Teller, told_by}
use Rattle.dc_plain.specs.Resolution.{Outcome}
use Rattle.dc_row.specs.Spelling.{TellsOf}
use Rattle.dc_resolve.specs.Needs.{IsNeeded, IsUntold}
use Rattle.dc_index.specs.Slots.{bucket_of}
use Rattle.dc_events.specs.Views.{View, Note, Fault}
use Rattle.dc_events.specs.Rows.{note_words, IsWhole}
use Rattle.dc_walk.specs.Uses.{Use, HasUsed, facts_of}
use Rattle.dc_names.specs.declared.limits.TheConstants.{BUCKET_ROWS, ROW_WORDS}

-- a walk that has looked at k rows for its present question: each question cost the rows of a bucket at most, each row a load for each word
pub record IsWalk (outcome : Teller → Option Outcome) (v : View) (uses : List Use) (k : ℕ) : Type 0 where
  pub busy : v.walk.busy ≡ true
  pub early : v.walk.pivoted ≡ false
  pub used : HasUsed outcome v.walk.notes uses
  pub few : length v.walk.notes ≤ BUCKET_ROWS * length uses + k
  pub loads : v.loads ≤ v.first_load + ROW_WORDS * (BUCKET_ROWS * length uses + k)

-- what no step of a walk changes once it is begun
pub record SameWalk (v w : View) : Type 0 where
  pub call : w.walk.call ≡ v.walk.call
  pub book : w.book ≡ v.book
  pub first_load : w.first_load ≡ v.first_load

-- the walk goes on in this view
pub record GoesOn (v w : View) : Type 0 where
  pub notes : List Note
  pub noted : w.walk.notes ≡ v.walk.notes ++ notes
  pub more : List Fault
  pub faults : w.faults ≡ v.faults ++ more
  pub same : SameWalk v w

-- a whole note of the row doesn't tell of the key
pub record IsOther (v : View) (row : ℕ) (key : Key) : Type 0 where
  pub note : Note
  pub noted : Contains v.walk.notes note
  pub is_of : note.row ≡ row
  pub whole : IsWhole note
  pub other : TellsOf (note_words note) key → ⊥

-- the first row of a key's bucket, of this many
abbrev pub first_row : ℕ → Key → ℕ
first_row buckets key = BUCKET_ROWS * bucket_of key buckets

-- by the facts of the notes that answered its questions so far the walk asks for this key
pub record Asks (outcome : Teller → Option Outcome) (v : View) (key : Key) : Type 0 where
  pub uses : List Use
  pub used : HasUsed outcome v.walk.notes uses
  pub untold : IsUntold (told_by (facts_of uses)) key.number key.label
  pub needed : IsNeeded outcome (told_by (facts_of uses)) key.number key.label

-- a key is asked for, and no row of its bucket tells of it
pub record IsMissing (outcome : Teller → Option Outcome) (buckets : ℕ) (v : View) (key : Key) : Type 0 where
  pub asks : Asks outcome v key
  pub rows : (k : ℕ) → k < BUCKET_ROWS → IsOther v (first_row buckets key + k) key
