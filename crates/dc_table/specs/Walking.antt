-- When a pass may take a step of a walk, and what the step tells it.
use Rattle.std.specs.Prelude.{◌≡◌, ◌≢◌, ℕ, ◌+◌, ◌%◌, ◌<◌, ◌≤◌, Bool, true, false, List, ◌∷◌, length, Option as Maybe}
use mathlib.Core.Option.{some}
use lib.ListN.{get_elem?}
use Rattle.atomic_table.specs.Table.{Step}
use Rattle.dc_plain.specs.Requests.{Request, request_of}
use Rattle.dc_plain.specs.declared.call.Call.{Call}
use Rattle.dc_names.specs.declared.limits.TheConstants.{ROW_WORDS}
use Rattle.dc_events.specs.Views.{View}
use Rattle.dc_events.specs.Views.Fault.{Busy, Changed}
use Rattle.dc_events.specs.Rows.{IsWhole, Tells, note_words}
use Rattle.dc_events.specs.Standing.{tree_of}
use Rattle.dc_events.specs.Walks.{last_of}
use Rattle.dc_events.specs.Effects.{begins, quit, noted, note_at, read, pivoted, checked, faulted}
use Rattle.dc_table.specs.Passes.{Pass, view}
use Rattle.dc_table.specs.Shares.{Known, with_pivot, with_view}
use Rattle.dc_table.specs.Kept.{sheet_of}
use Rattle.dc_table.specs.Plays.{Place, known_at}
use Rattle.dc_table.specs.Boxes.{Boxed}

-- the view in which a step of a pass finds it, which may begin the walk of a call
abbrev pub started : Bool → Pass → Call → View
started first p call = begins first (view p) (request_of call)

-- the count of a row is found to be another than was noted, a higher one, which is a fault
abbrev pub FindsOther : View → View → ℕ → ℕ → ℕ × ℕ → Type 0
FindsOther v w row noted counts = (counts.0 ≡ noted) × (noted < counts.1) × (w ≡ faulted v (Changed row noted counts.1))

-- a step that may begin the walk of a call finds no pivot in it
abbrev pub IsFresh : Bool → View → Request → Type 0
IsFresh first v call = let w = (begins first v call).walk in w.busy ≡ true → w.pivoted ≡ false

-- a row is noted for an unanswered call, before its pivot
pub record CanNote (first : Bool) (v : View) (call : Request) : Type 0 where
  pub busy : (begins first v call).walk.busy ≡ true
  pub fresh : (begins first v call).walk.pivoted ≡ false

-- the word is the next one of the row that was noted last
pub record CanRead (v : View) (row word : ℕ) : Type 0 where
  pub busy : v.walk.busy ≡ true
  pub fresh : v.walk.pivoted ≡ false
  pub there : get_elem? v.walk.notes (last_of v.walk) ≡ some (note_at v (last_of v.walk))
  pub of_row : (note_at v (last_of v.walk)).row ≡ row
  pub next : length (note_at v (last_of v.walk)).words + 1 ≡ word
  pub inside : word < ROW_WORDS

-- an unanswered call has a pivot, and its note i is of the row, with this count, whole, and not yet checked
pub record CanCheck (v : View) (i row count : ℕ) : Type 0 where
  pub busy : v.walk.busy ≡ true
  pub turned : v.walk.pivoted ≡ true
  pub there : get_elem? v.walk.notes i ≡ some (note_at v i)
  pub whole : IsWhole (note_at v i)
  pub unchecked : (note_at v i).checked ≡ false
  pub of_row : (note_at v i).row ≡ row
  pub counted : (note_at v i).count ≡ count

-- an even count is noted, an odd one is a fault
abbrev pub noted_as : Request → ℕ → Bool → Step (Maybe Boxed) → Place → ℕ → Place → Type 0
noted_as call row first st m r m' = let k = known_at m in let v = begins first k.view call in
    (r % 2 ≡ 0 → m' ≡ (sheet_of (with_view k (noted v row r)), m.1)) × (r % 2 ≢ 0 → m' ≡ (sheet_of (with_view k (faulted v (Busy row))), m.1))

abbrev pub read_as : Step (Maybe Boxed) → Place → ℕ → Place → Type 0
read_as st m r m' = let k = known_at m in m' ≡ (sheet_of (with_view k (read k.view r)), m.1)

-- the clock is loaded, and the pass knows the history that it counts
abbrev pub pivoted_as : Request → Bool → Step (Maybe Boxed) → Place → ℕ → Place → Type 0
pivoted_as call first st m r m' = let k = known_at m in
    ((history : List Request) × (length history ≡ r) × (m' ≡ (sheet_of (with_pivot k (pivoted (begins first k.view call) r) history), m.1))) × (k.view.book.seen ≤ r)

-- the last pivot of a pass counted this many calls
pub record CountsAt (k : Known) (clock : ℕ) : Type 0 where
  pub history : List Request
  pub earlier : List (List Request)
  pub clock_is : length history ≡ clock
  pub now : k.pivots ≡ history ∷ earlier

-- what note i spells, if anything, is true of the tree at the walk's pivot, after the history that it counted
abbrev pub IsTrueThen : Known → ℕ → Type 0
IsTrueThen k i = (history : List Request) (earlier : List (List Request)) → k.pivots ≡ history ∷ earlier → length history ≡ k.view.walk.pivot → Tells (tree_of k.share.limit history) (note_words (note_at k.view i))

-- the clock is loaded, and no walk goes on
abbrev pub learnt_as : Step (Maybe Boxed) → Place → ℕ → Place → Type 0
learnt_as st m r m' = let k = known_at m in (m' ≡ (sheet_of (with_view k (pivoted (quit k.view) r)), m.1)) × (k.view.book.seen ≤ r)

-- the count that was noted checks the note, which is true of the tree at the pivot then; another one is higher, and a fault
abbrev pub checked_as : ℕ → Step (Maybe Boxed) → Place → ℕ → Place → Type 0
checked_as i st m r m' = let k = known_at m in let x = note_at k.view i in
    (x.count ≡ r → (m' ≡ (sheet_of (with_view k (checked k.view i)), m.1)) × IsTrueThen k i) × (x.count ≢ r → (x.count < r) × (m' ≡ (sheet_of (with_view k (faulted k.view (Changed x.row x.count r))), m.1)))

-- a pass noted this row with this count, and read all of its words, as note i
pub record HasNoted (v : View) (i row count : ℕ) : Type 0 where
  pub there : get_elem? v.walk.notes i ≡ some (note_at v i)
  pub whole : IsWhole (note_at v i)
  pub of_row : (note_at v i).row ≡ row
  pub counted : (note_at v i).count ≡ count

-- what note i spells, if anything, is true of the tree that the holder has
abbrev pub IsTrueNow : ℕ → View → ℕ → Type 0
IsTrueNow limit v i = Tells (tree_of limit v.hold.history) (note_words (note_at v i))

-- the holder loads the count of the row of a note, and knows by it whether the note is true now
abbrev pub compared_as : ℕ → Step (Maybe Boxed) → Place → ℕ → Place → Type 0
compared_as i st m r m' = let k = known_at m in (m' ≡ m) × ((note_at k.view i).count ≡ r → IsTrueNow k.share.limit k.view i)
