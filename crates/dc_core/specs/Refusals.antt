-- When an event is refused, and as what: the tests in their order.
use Rattle.std.specs.Prelude.{◌≡◌, ◌≢◌, ℕ, ◌+◌, ◌%◌, ◌<◌, ◌≤◌, ◌⊎◌, true, false, [], length, get_or, Option, Some, None}
use Rattle.dc_plain.specs.Facts.{Fact}
use Rattle.dc_plain.specs.Requests.{Request}
use Rattle.dc_plain.specs.Runs.{alters, Touches}
use Rattle.dc_plain.specs.Facts.{key_of}
use Rattle.dc_row.specs.Spelling.{Spells}
use Rattle.dc_names.specs.declared.limits.TheConstants.{ROW_WORDS}
use Rattle.dc_events.specs.Views.{Walk}
use Rattle.dc_events.specs.Rows.{most, count, row_words, Tells, IsWhole}
use Rattle.dc_events.specs.Walks.{note_of, last_of}
use Rattle.dc_core.specs.Machine.{Act, State, Actor as Stored, Event, actor_at, clock_of}
use Rattle.dc_core.specs.Machine.Act.{Begin, Take, Shut, Write, Open, Commit, Give, Note, Read, Pivot, Check, Again, Quit}

pub data Refusal : Type 0 where
  Actor : Refusal
  Holder : Refusal
  Unfinished : Refusal
  Held : Refusal
  NotHolder : Refusal
  NoRow : Refusal
  Odd : Refusal
  Even : Refusal
  Spent : Refusal
  NoWord : Refusal
  Untrue : Refusal
  NoCall : Refusal
  Unaltered : Refusal
  Full : Refusal
  Touched : ℕ → Refusal
  OddRow : ℕ → Refusal
  Alters : Refusal
  Late : Refusal
  NoNote : Refusal
  Early : Refusal
  Changed : ℕ → ℕ → ℕ → Refusal

-- a test with the name of its refusal, and what is tested after it
abbrev pub Unless : Type 0 → Refusal → (Option Refusal → Type 0) → Option Refusal → Type 0
Unless test reason next o = (test × (o ≡ Some reason)) ⊎ ((test → ⊥) × next o)

-- what an event needs, with the name of its refusal if it isn't so
abbrev pub Needs : Type 0 → Refusal → (Option Refusal → Type 0) → Option Refusal → Type 0
Needs condition reason next o = ((condition → ⊥) × (o ≡ Some reason)) ⊎ (condition × next o)

abbrev pub Passes : Option Refusal → Type 0
Passes o = o ≡ None

-- the first row of which a test is so
abbrev pub UnlessRow : ℕ → (ℕ → Type 0) → (ℕ → Refusal) → (Option Refusal → Type 0) → Option Refusal → Type 0
UnlessRow rows Test reason next o =
    ((row : ℕ) × (row < rows) × Test row × ((r : ℕ) → r < row → Test r → ⊥) × (o ≡ Some (reason row)))
    ⊎ (((row : ℕ) → row < rows → Test row → ⊥) × next o)

-- that row, if there is one
abbrev pub FirstRow : ℕ → (ℕ → Type 0) → Option ℕ → Type 0
FirstRow rows Test None = (row : ℕ) → row < rows → Test row → ⊥
FirstRow rows Test (Some row) = (row < rows) × Test row × ((r : ℕ) → r < row → Test r → ⊥)

abbrev pub IsOdd : State → ℕ → Type 0
IsOdd s row = count s.words row % 2 ≡ 1

abbrev pub IsEven : State → ℕ → Type 0
IsEven s row = count s.words row % 2 ≡ 0

-- the row's words spell a row, whose fact, if any, is true in the tree now
abbrev pub IsTrueRow : State → ℕ → Type 0
IsTrueRow s row = Tells s.tree (row_words s.words row)

-- a row that gets its last count is empty
abbrev pub IsEmptyAtLast : State → ℕ → Type 0
IsEmptyAtLast s row = count s.words row + 1 ≡ most → Spells (row_words s.words row) None

-- an even row has a key that the call touches
abbrev pub IsTouched : State → Request → ℕ → Type 0
IsTouched s call row = IsEven s row × (fact : Fact) × Spells (row_words s.words row) (Some fact) × Touches s.limit s.tree call (key_of fact)

abbrev pub NoneWhole : Walk → Type 0
NoneWhole w = (w.notes ≡ []) ⊎ IsWhole (note_of w (last_of w))

abbrev pub IsUncheckable : Walk → ℕ → Type 0
IsUncheckable w i = (length w.notes ≤ i) ⊎ ((IsWhole (note_of w i) → ⊥) ⊎ ((note_of w i).checked ≡ true))

-- the tests that come first: of a holder at an odd row, and of a holder with a call
abbrev pub AtOddRow : State → ℕ → ℕ → (Option Refusal → Type 0) → Option Refusal → Type 0
AtOddRow s j row next = Unless (length s.actors ≤ j) Actor (Unless ((actor_at s j).holds ≡ false) NotHolder (Unless (s.rows ≤ row) NoRow (Unless (IsEven s row) Even next)))

abbrev pub WithCall : State → ℕ → (Option Refusal → Type 0) → Option Refusal → Type 0
WithCall s j next = Unless (length s.actors ≤ j) Actor (Unless ((actor_at s j).holds ≡ false) NotHolder (Unless ((actor_at s j).walk.busy ≡ false) NoCall next))

-- the tests that come after these
abbrev pub MayBeOpened : State → ℕ → Option Refusal → Type 0
MayBeOpened s row = Needs (IsTrueRow s row) Untrue (Needs (IsEmptyAtLast s row) Spent Passes)

abbrev pub MayBeMade : State → Request → Option Refusal → Type 0
MayBeMade s call = Unless (alters s.limit s.tree call ≡ false) Unaltered (Unless (clock_of s ≡ most) Full (UnlessRow s.rows (IsTouched s call) Touched Passes))

abbrev pub refused : State → Stored → Act → Option Refusal → Type 0
refused s a (Begin call) = Unless (a.holds ≡ true) Holder (Unless (a.walk.busy ≡ true) Unfinished Passes)
refused s a Take = Unless (get_or s.words 1 0 ≢ 0) Held Passes
refused s a (Shut row) = Unless (a.holds ≡ false) NotHolder (Unless (s.rows ≤ row) NoRow (Unless (IsOdd s row) Odd (Unless (count s.words row ≡ most) Spent Passes)))
refused s a (Write row i x) = Unless (a.holds ≡ false) NotHolder (Unless (s.rows ≤ row) NoRow (Unless ((i ≡ 0) ⊎ (ROW_WORDS ≤ i)) NoWord (Unless (IsEven s row) Even Passes)))
refused s a (Open row) = Unless (a.holds ≡ false) NotHolder (Unless (s.rows ≤ row) NoRow (Unless (IsEven s row) Even (Needs (IsTrueRow s row) Untrue (Needs (IsEmptyAtLast s row) Spent Passes))))
refused s a Commit = Unless (a.holds ≡ false) NotHolder (Unless (a.walk.busy ≡ false) NoCall (Unless (alters s.limit s.tree a.walk.call ≡ false) Unaltered (Unless (clock_of s ≡ most) Full (UnlessRow s.rows (IsTouched s a.walk.call) Touched Passes))))
refused s a (Give false) = Unless (a.holds ≡ false) NotHolder (UnlessRow s.rows (IsOdd s) OddRow Passes)
refused s a (Give true) = Unless (a.holds ≡ false) NotHolder (UnlessRow s.rows (IsOdd s) OddRow (Unless (a.walk.busy ≡ false) NoCall (Unless (alters s.limit s.tree a.walk.call ≡ true) Alters Passes)))
refused s a (Note row) = Unless (a.walk.busy ≡ false) NoCall (Unless (a.walk.pivoted ≡ true) Late (Unless (s.rows ≤ row) NoRow (Unless (IsOdd s row) Odd Passes)))
refused s a Read = Unless (a.walk.busy ≡ false) NoCall (Unless (a.walk.pivoted ≡ true) Late (Unless (NoneWhole a.walk) NoNote Passes))
refused s a Pivot = Unless ((a.walk.busy ≡ true) × (a.walk.pivoted ≡ true)) Late Passes
refused s a (Check i) = let x = note_of a.walk i in
    Unless (a.walk.busy ≡ false) NoCall (Unless (a.walk.pivoted ≡ false) Early (Unless (IsUncheckable a.walk i) NoNote (Unless (count s.words x.row ≢ x.count) (Changed x.row x.count (count s.words x.row)) Passes)))
refused s a Again = Unless (a.walk.busy ≡ false) NoCall Passes
refused s a Quit = Unless (a.walk.busy ≡ false) NoCall Passes

-- what the event is refused as, or None if it is done
abbrev pub Answers : State → Event → Option Refusal → Type 0
Answers s e = Unless (length s.actors ≤ e.actor) Actor (refused s (actor_at s e.actor) e.act)
