-- What holds between any two events, of the shared words, the views of all actors and a history that no code stores.
use Rattle.std.specs.Prelude.{◌≡◌, ℕ, suc, ◌+◌, ◌%◌, ◌<◌, ◌≤◌, ◌⊎◌, true, false, ltb, List, [], ◌∷◌, length, get_or, take, None, if◌then◌else◌}
use mathlib.Core.Option.{some}
use lib.ListN.{get_elem?}
use Rattle.dc_plain.specs.Requests.{Request}
use Rattle.dc_plain.specs.Trees.{Tree}
use Rattle.dc_row.specs.Spelling.{Spells}
use Rattle.dc_names.specs.declared.limits.TheConstants.{ROW_WORDS}
use Rattle.dc_events.specs.Views.{Note, Record, Walk, Book, Hold, Fault, View}
use Rattle.dc_events.specs.Views.Fault.{Busy, Changed}
use Rattle.dc_events.specs.Standing.{tree_of, Stands, Rising, ends, hits, all_hits}
use Rattle.dc_events.specs.Rows.{most, base_of, count, words_from, row_words, Tells, note_words, IsWhole}

-- what is so of each note of an actor
pub record NoteFits (rows : ℕ) (words : List ℕ) (x : Note) : Type 0 where
  -- its row is one of the table
  pub inside : x.row < rows
  -- with the count it has no more words than a row
  pub few : length x.words < ROW_WORDS
  -- the row was not being written as its count was seen
  pub even : x.count % 2 ≡ 0
  -- counts only grow
  pub below : x.count ≤ count words x.row
  -- while the count is what was seen, the words read are those that stand there
  pub same : x.count ≡ count words x.row → x.words ≡ words_from words (suc (base_of x.row)) (length x.words)
  -- only a note of all words was checked
  pub whole : x.checked ≡ true → IsWhole x

-- the note is whole, and was checked or could still be
abbrev pub Counts : List ℕ → Note → Type 0
Counts words x = IsWhole x × ((x.checked ≡ true) ⊎ (x.count ≡ count words x.row))

-- what is so of the walk of an actor
pub record WalkFits (limit rows : ℕ) (words : List ℕ) (hist : List Request) (w : Walk) : Type 0 where
  -- each note fits the words
  pub noted : (i : ℕ) (x : Note) → get_elem? w.notes i ≡ some x → NoteFits rows words x
  -- a pivot is no later than now
  pub bound : w.busy ≡ true → w.pivoted ≡ true → w.pivot ≤ length hist
  -- after the pivot each note that was checked, or still could be, is true in the tree at the pivot
  pub told : w.busy ≡ true → w.pivoted ≡ true → (i : ℕ) (x : Note) → get_elem? w.notes i ≡ some x → Counts words x → Tells (tree_of limit (take w.pivot hist)) (note_words x)
  -- before it no note is checked
  pub unchecked : w.busy ≡ true → w.pivoted ≡ false → (i : ℕ) (x : Note) → get_elem? w.notes i ≡ some x → x.checked ≡ false

-- what is so of records that one actor made
pub record StrandFits (limit : ℕ) (hist : List Request) (seen : ℕ) (s : List Record) : Type 0 where
  -- each has the reply of its point in the history
  pub stand : (i : ℕ) (r : Record) → get_elem? s i ≡ some r → Stands limit hist r
  -- each comes at or after the one before, and after its change
  pub rising : Rising 0 s
  -- and the last no later than the clock that was seen
  pub within : ends 0 s ≤ seen

-- what is so of all records that a view keeps
pub record BookFits (limit : ℕ) (hist : List Request) (b : Book) : Type 0 where
  -- the actor's own records fit
  pub own : StrandFits limit hist b.seen b.own
  -- and those of each actor that was joined to it
  pub joined : (i : ℕ) (s : List Record) → get_elem? b.joined i ≡ some s → StrandFits limit hist b.seen s
  -- the clock that was seen is no later than now
  pub seen : b.seen ≤ length hist

-- a call that is answered at its pivot comes after the actor's own records
abbrev pub Follows : Walk → Book → Type 0
Follows w b = w.busy ≡ true → w.pivoted ≡ true → (w.pivot ≤ b.seen) × (ends 0 b.own ≤ w.pivot)

-- a fault is of a row of the table, and a count that was found is above the noted one and has been reached
abbrev pub FaultFits : ℕ → List ℕ → Fault → Type 0
FaultFits rows words (Busy row) = row < rows
FaultFits rows words (Changed row noted found) = (row < rows) × (noted < found) × (found ≤ count words row)

abbrev pub FaultsFit : ℕ → List ℕ → List Fault → Type 0
FaultsFit rows words faults = (i : ℕ) (why : Fault) → get_elem? faults i ≡ some why → FaultFits rows words why

-- what is so of each view, whoever has the lock
pub record ViewFits (limit rows : ℕ) (words : List ℕ) (hist : List Request) (v : View) : Type 0 where
  -- its walk fits the words and the history
  pub walk : WalkFits limit rows words hist v.walk
  -- its records stand in the history
  pub book : BookFits limit hist v.book
  -- an answer at its pivot comes after its own records
  pub follows : Follows v.walk v.book
  -- the faults of its walk were met
  pub faults : FaultsFit rows words v.faults

-- what is so of each row, by the tree now
pub record RowFits (t : Tree) (words : List ℕ) (row : ℕ) : Type 0 where
  -- its count is at most the last one
  pub below : count words row ≤ most
  -- an even row spells no fact, or one that is true now
  pub told : count words row % 2 ≡ 0 → Tells t (row_words words row)
  -- a row that has its last count is empty for good
  pub spent : count words row ≡ most → Spells (row_words words row) None

-- a number of each, summed
abbrev pub total : {A : Type 0} → (A → ℕ) → List A → ℕ
total f [] = 0
total f (x ∷ xs) = f x + total f xs

-- how many records of a view altered the tree at p
abbrev pub book_hits : ℕ → Book → ℕ
book_hits p b = hits p b.own + all_hits p b.joined

abbrev pub view_hits : ℕ → View → ℕ
view_hits p v = book_hits p v.book

-- one for each call of a history of length n, none past its end
abbrev pub once_below : ℕ → ℕ → ℕ
once_below p n = if ltb p n then 1 else 0

-- the holder knows the words and the history
pub record HoldFits (words : List ℕ) (hist : List Request) (holder j : ℕ) (h : Hold) : Type 0 where
  -- no other view holds the lock
  pub here : j ≡ holder
  -- the lock word says that it is taken
  pub locked : get_or words 1 0 ≡ 1
  -- the history in this view is the history
  pub knows_history : h.history ≡ hist
  -- the words in this view are the shared words
  pub knows_words : h.words ≡ words

-- the lock is taken, and this view has it
abbrev pub Locked : List ℕ → List View → ℕ → Type 0
Locked words views holder = (get_or words 1 0 ≡ 1) × ((v : View) × (get_elem? views holder ≡ some v) × (v.hold.holds ≡ true))

-- no row is being written
abbrev pub AllEven : ℕ → List ℕ → Type 0
AllEven rows words = (row : ℕ) → row < rows → count words row % 2 ≡ 0

-- the rule: words, views and history fit one another so between any two events
pub record Rule (limit rows : ℕ) (words : List ℕ) (views : List View) (hist : List Request) : Type 0 where
  -- whose view has the lock, if any has it
  pub holder : ℕ
  -- the clock counts the calls that have altered the tree
  pub clock : get_or words 0 0 ≡ length hist
  -- and is at most its last value
  pub early : length hist ≤ most
  -- clock, lock and rows are all the words
  pub wide : length words ≡ base_of rows
  -- each row that can be read is true in the tree now
  pub row : (i : ℕ) → i < rows → RowFits (tree_of limit hist) words i
  -- the lock is free, and then no row is odd, or one view has it
  pub lock : ((get_or words 1 0 ≡ 0) × AllEven rows words) ⊎ Locked words views holder
  -- the view that has it is the holder's, and knows the words and the history
  pub held : (j : ℕ) (v : View) → get_elem? views j ≡ some v → v.hold.holds ≡ true → HoldFits words hist holder j v.hold
  -- what each view says of walks and records is so
  pub fits : (j : ℕ) (v : View) → get_elem? views j ≡ some v → ViewFits limit rows words hist v
  -- each call of the history has just one record, in one view
  pub once : (p : ℕ) → total (view_hits p) views ≡ once_below p (length hist)
