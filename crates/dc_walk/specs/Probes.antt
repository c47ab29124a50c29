-- What a probe of a row makes of a view.
use Rattle.std.specs.Prelude.{◌≡◌, ℕ, ◌+◌, ◌-◌, ◌<◌, ◌≤◌, ◌↔◌, List, [], ◌∷◌, ◌++◌, Bool, true, false, if◌then◌else◌, IsTrue, length, get_or, take, drop}
use Rattle.dc_plain.specs.Facts.{Key, Label, label_bytes}
use Rattle.dc_plain.specs.Facts.Label.{Entry, Parent, Text}
use Rattle.dc_row.specs.Narrow.{told_words}
use Rattle.dc_row.specs.Spelling.{TellsOf, text_word}
use Rattle.dc_plain.specs.Requests.{Request}
use Rattle.dc_names.specs.declared.limits.TheConstants.{ROW_WORDS}
use Rattle.dc_row.specs.declared.layout.TheConstants.{TEXT_START}
use Rattle.dc_row.specs.declared.short.TheConstants.{SHORT_TEXT, SHORT_WORDS}
use Rattle.dc_events.specs.Views.{Note, Walk, View}
use Rattle.dc_table.specs.Passes.{Pass, view, IsWalkerAt}
use Rattle.dc_table.specs.declared.shared.Shared.{Shared}
use Rattle.dc_walk.specs.Rooms.{Kept}
use Rattle.dc_walk.specs.declared.probe.Noted.{Noted}
use Rattle.dc_walk.specs.declared.probe.Top.{Top}
use Rattle.dc_walk.specs.declared.row.RowAt.{RowAt}
use Rattle.dc_walk.specs.declared.row.Taken as rust_taken
use Rattle.dc_walk.specs.declared.row.Taken.TheVariants as takings

-- a note that no check has seen
abbrev pub fresh_note : ℕ → ℕ → List ℕ → Note
fresh_note row count words = record { row = row; count = count; words = words; checked = false }

-- a row was noted, and this many words of it were read
abbrev pub probed : View → ℕ → ℕ → List ℕ → View
probed v row count words = record v {
  walk = record v.walk { notes = v.walk.notes ++ fresh_note row count words ∷ [] };
  loads = v.loads + (1 + length words);
}

-- a walk goes on, and has no pivot yet
pub record IsEarly (v : View) : Type 0 where
  pub busy : v.walk.busy ≡ true
  pub fresh : v.walk.pivoted ≡ false

-- a row was noted and read whole, its count first
abbrev pub seen_whole : View → ℕ → List ℕ → View
seen_whole v row words = probed v row (get_or words 0 0) (drop 1 words)

-- a note of a row with all its words, the count first
abbrev pub note_of : ℕ → List ℕ → Note
note_of row words = fresh_note row (get_or words 0 0) (drop 1 words)

-- a walk of this call that has these notes, and no pivot yet
abbrev pub walk_with : Request → List Note → Walk
walk_with call notes = record { busy = true; call = call; notes = notes; pivoted = false; pivot = 0 }

-- the words after the first, up to the i-th
abbrev pub read_of : List ℕ → ℕ → List ℕ
read_of words i = take (i - 1) (drop 1 words)

-- a row's words up to the i-th were read after the view was this
pub record HasRead (v w : View) (row : ℕ) (words : List ℕ) (i : ℕ) : Type 0 where
  pub size : length words ≡ ROW_WORDS
  pub read : w ≡ probed v row (get_or words 0 0) (read_of words i)

-- the walk goes on, and has read the row's words up to the i-th
pub record IsReading (w : View) (row : ℕ) (words : List ℕ) (i : ℕ) : Type 0 where
  pub before : View
  pub early : IsEarly before
  pub has : HasRead before w row words i

-- a row was noted after the view was this, and its top was read
abbrev pub ReadsTop : View → View → ℕ → Top → Type 0
ReadsTop v w row top = w ≡ probed v row top.count (top.head ∷ top.number ∷ [])

-- the walk goes on, and has read a row's top
pub record IsReadingTop (w : View) (row : ℕ) (top : Top) : Type 0 where
  pub before : View
  pub early : IsEarly before
  pub read : ReadsTop before w row top

-- the pass of a table reads the row on
pub record MayReadOn (t : Shared) (p : Pass) (noted : Noted) : Type 0 where
  pub walker : IsWalkerAt t p noted.row
  pub reading : IsReadingTop (view p) noted.row noted.top

-- the words of a row by its top, its value and those behind
abbrev pub row_of : Top → ℕ → List ℕ → List ℕ
row_of top value rest = top.count ∷ top.head ∷ top.number ∷ value ∷ rest

-- words behind a value are these four, and zeros past them
pub record IsText (text rest : List ℕ) : Type 0 where
  pub first : (i : ℕ) → i < length rest → i < SHORT_WORDS → get_or rest i 0 ≡ get_or text i 0
  pub past : (i : ℕ) → i < length rest → SHORT_WORDS ≤ i → get_or rest i 0 ≡ 0

-- a label is a short name
abbrev pub IsShort : Label → Type 0
IsShort (Entry name) = length name ≤ SHORT_TEXT
IsShort Parent = ⊥
IsShort Text = ⊥

-- if a label is a short name, these words spell it, and no word is needed past them
pub record SpellsShort (words : List ℕ) (label : Label) : Type 0 where
  pub first : IsShort label → (i : ℕ) → i < SHORT_WORDS → get_or words i 0 ≡ text_word (label_bytes label) i
  pub past : IsShort label → (i : ℕ) → SHORT_WORDS ≤ i → text_word (label_bytes label) i ≡ 0

-- a row was read whole, its value and whether its text has these words were seen
pub record ReadsShort (v w : View) (row : ℕ) (top : Top) (text : List ℕ) (value : ℕ) (is_its : Bool) : Type 0 where
  pub rest : List ℕ
  pub size : length rest + TEXT_START ≡ ROW_WORDS
  pub read : w ≡ seen_whole v row (row_of top value rest)
  pub its : IsTrue is_its ↔ IsText text rest

-- all of these words are zero
abbrev pub AreZero : List ℕ → Type 0
AreZero words = (i : ℕ) → i < length words → get_or words i 0 ≡ 0

-- a row was read whole, of which these are the first words, and whether zeros are past them was seen
pub record ReadsFirst (v w : View) (row : ℕ) (first : List ℕ) (narrow : Bool) : Type 0 where
  pub rest : List ℕ
  pub size : length (first ++ rest) ≡ ROW_WORDS
  pub read : w ≡ seen_whole v row (first ++ rest)
  pub zeros : IsTrue narrow ↔ AreZero rest

-- a row was read whole
pub record ReadsWhole (v w : View) (row : ℕ) (words : List ℕ) : Type 0 where
  pub size : length words ≡ ROW_WORDS
  pub read : w ≡ seen_whole v row words

-- a row was read, but not to its end
pub record ReadsLess (v w : View) (row : ℕ) : Type 0 where
  pub count : ℕ
  pub words : List ℕ
  pub few : length words + 1 < ROW_WORDS
  pub read : w ≡ probed v row count words

-- of a row whose top was read some words more were read, but not all
abbrev pub ReadsPart : Pass → Pass → Noted → Type 0
ReadsPart p q noted = (v : View) → ReadsTop v (view p) noted.row noted.top → ReadsLess v (view q) noted.row

-- it was read whole and tells of another key, or of none; or it was left, for a walk that is brief; or it tells of the key and is kept as the last
abbrev pub TakesIn : View → View → ℕ → ℕ → Key → Kept → Kept → Bool → rust_taken.Taken → Type 0
TakesIn v w row place key r s brief takings.Other = (words : List ℕ) × ReadsWhole v w row words × (TellsOf words key → ⊥) × (s.items ≡ r.items) × (s.spent ≡ r.spent)
TakesIn v w row place key r s brief takings.Left = (brief ≡ true) × ReadsLess v w row × (s.items ≡ r.items) × (s.spent ≡ r.spent)
TakesIn v w row place key r s brief (takings.Tells at) = (words : List ℕ) × ReadsWhole v w row words × TellsOf words key × (s.items ≡ r.items ++ record { row = row; place = place; words = words } ∷ []) × (s.spent ≡ r.spent + told_words words) × (at ≡ length r.items)

-- the top of a row whose first words are these
abbrev pub top_of : List ℕ → Top
top_of words = record { count = get_or words 0 0; head = get_or words 1 0; number = get_or words 2 0 }

-- a row that was noted, whose top stands in a room
abbrev pub noted_in : RowAt → Kept → Noted
noted_in at room = record { row = at.row; place = at.place; top = top_of room.next }

-- the label of a text, or of a dot-dot
abbrev pub bare_label : Bool → Label
bare_label is_text = if is_text then Text else Parent

-- of a row that was read up to one word, whatever the view was before, the words up to another were read
abbrev pub ReadsMore : Pass → Pass → ℕ → List ℕ → ℕ → List ℕ → ℕ → Type 0
ReadsMore p q row old from new to = (v : View) → HasRead v (view p) row old from → HasRead v (view q) row new to

-- of a row that was read up to one word the rest was read, and whether it is zero was seen; these are the first words
abbrev pub ReadsRest : Pass → Pass → ℕ → List ℕ → ℕ → List ℕ → Bool → Type 0
ReadsRest p q row words from first narrow = (v : View) → HasRead v (view p) row words from → ReadsFirst v (view q) row first narrow

-- of a row whose top was read the rest was read, its value and whether its text has these words were seen
abbrev pub ReadsBehind : Pass → Pass → Noted → List ℕ → ℕ → Bool → Type 0
ReadsBehind p q noted text value is_its = (v : View) → ReadsTop v (view p) noted.row noted.top → ReadsShort v (view q) noted.row noted.top text value is_its

-- a row whose top was read was read whole, and is kept as the last if it tells of the key
abbrev pub TakesRow : Pass → Pass → Noted → Key → Kept → Kept → Bool → rust_taken.Taken → Type 0
TakesRow p q noted key r s brief taken = (v : View) → ReadsTop v (view p) noted.row noted.top → TakesIn v (view q) noted.row noted.place key r s brief taken
