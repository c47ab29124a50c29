-- What a call leaves: the pass that is back, and the rows that it handed back.
use Rattle.std.specs.Prelude.{◌≡◌, ℕ, ◌<◌, ◌≤◌, min, List, length, Option, Result, Ok, Err, IfOk, IfErr, IfSome}
use Rattle.std.specs.Borrow.{MutBor}
use Rattle.dc_names.specs.declared.NoMemory.{NoMemory}
use Rattle.dc_plain.specs.Facts.{Key}
use Rattle.dc_plain.specs.Requests.{Request, answer_of}
use Rattle.dc_plain.specs.Runs.{reply_of, tree_after, Touches}
use Rattle.dc_plain.specs.declared.call.Reply.{Reply}
use Rattle.dc_index.specs.Slots.{slot_of}
use Rattle.dc_index.specs.Slots.Slot.{Holds as Held}
use Rattle.dc_events.specs.Rows.{most}
use Rattle.dc_events.specs.Standing.{tree_of}
use Rattle.dc_table.specs.Changes.{Recorded}
use Rattle.dc_table.specs.Passes.{Pass, known, view, share, IsSamePass, IsIdle}
use Rattle.dc_table.specs.Shares.{Known, HadOnce}
use Rattle.dc_table.specs.RowStates.{RowState}
use Rattle.dc_rows.specs.Changes.{Altered, Failed}
use Rattle.dc_rows.specs.Guards.{seat_of, kept_by, rows_of}
use Rattle.dc_rows.specs.RowChanges.{EmptiesLast, Gets, PinsAnswered, UnpinsAll}
use Rattle.dc_rows.specs.Refills.{Retold, Turns}
use Rattle.dc_rows.specs.declared.fault.ChangeFault.{ChangeFault}
use Rattle.dc_rows.specs.declared.fault.ChangeFault.TheVariants as faults
use Rattle.dc_rows.specs.declared.guard.Guard.{Guard}

-- the pass of a guard is back without the lock, which it had this once, and has not tried for it again
pub record IsBack (g : Guard) (back : MutBor Pass) : Type 0 where
  pub same_reference : back.ghost_name ≡ g.holder.pass.ghost_name
  pub same : IsSamePass (seat_of g) back.now
  pub idle : IsIdle back.now
  pub tries : (known back.now).tries ≡ (known (seat_of g)).tries
  pub got : (known back.now).got ≡ (known (seat_of g)).got
  pub once : HadOnce (known (seat_of g)) (known back.now)

-- a guard's pass has committed the call, whose reply this is, and written words of rows besides
abbrev pub AlteredHeld : Guard → Guard → Request → Reply → Type 0
AlteredHeld g h call reply = Altered (seat_of g) (seat_of h) call (answer_of reply)

-- the rows after a change that was made on the tree that the rows before tell of, or wasn't: those whose keys it touches tell what the tree has then, and all others are as they were
abbrev pub RowsAfter : ℕ → RowState → RowState → Request → Result (Reply × ℕ) ChangeFault → Type 0
RowsAfter limit s t call (Ok made) = let tree = tree_of limit s.history in Turns (Retold (tree_after limit tree call)) (Touches limit tree call) s t
RowsAfter limit s t call (Err faults.NoMemory) = let tree = tree_of limit s.history in Turns (Retold tree) (Touches limit tree call) s t
RowsAfter limit s t call (Err faults.Spent) = t ≡ s

-- a change was recorded with its reply, which it has on the tree after the history that the rows were of, or none is and why not; the rows were these before, and are those that the pass has left
pub record Makes (s : RowState) (p q : Pass) (call : Request) (result : Result (Reply × ℕ) ChangeFault) : Type 0 where
  pub done : IfOk result (λ made. Recorded (view p) (view q) call (answer_of made.0) made.1)
  pub fault : IfErr result (Failed (share p).limit s.history (view p) (view q) call)
  pub within : (view q).book.seen ≤ most
  pub at : IfOk result (λ made. made.1 ≡ length s.history)
  pub replied : IfOk result (λ made. answer_of made.0 ≡ reply_of (share p).limit (tree_of (share p).limit s.history) call)
  pub rows : RowsAfter (share p).limit s (known q).left call result

-- the same by a guard's pass, and by a pass that got the lock for it
abbrev pub MakesHeld : Guard → Pass → Request → Result (Reply × ℕ) ChangeFault → Type 0
MakesHeld g q call result = Makes (rows_of g) (seat_of g) q call result

abbrev pub MakesAlone : Pass → Pass → Request → Result (Reply × ℕ) ChangeFault → Type 0
MakesAlone p q call result = Makes (known q).got p q call result

-- up to this many rows were emptied, from the rows that the pass got to those that it left
pub record Shrinks (most n : ℕ) (q : Pass) : Type 0 where
  pub few : n ≡ min most (length (known q).got.used.listed)
  pub rows : EmptiesLast n (known q).got (known q).left

-- a row has got the key, or none has, from one guard to the next; no pin has come or gone
pub record Fills (key : Key) (g h : Guard) (result : Result (Option ℕ) NoMemory) : Type 0 where
  pub row : IfOk result (λ found. IfSome found (λ row. slot_of (kept_by h).index row ≡ Held key))
  pub rows : Gets key 0 (rows_of g) (rows_of h) result

-- under one hold a row of the table has got the key, and one pin more, from the rows that the pass got to those that it left; or none has
pub record Pins (key : Key) (p q : Pass) (result : Result (Option ℕ) NoMemory) : Type 0 where
  pub once : HadOnce (known p) (known q)
  pub row : IfOk result (λ found. IfSome found (λ row. row < (share q).rows))
  pub rows : Gets key 1 (known q).got (known q).left result
  pub pins : PinsAnswered (known q).got (known q).left result

-- under one hold each of these rows has lost a pin each time that it stands among them, and no other row has
pub record UnpinsOnce (rows : List ℕ) (k l : Known) : Type 0 where
  pub once : HadOnce k l
  pub rows_left : UnpinsAll rows l.got l.left
