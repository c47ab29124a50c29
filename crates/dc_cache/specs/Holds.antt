-- What a hold of the lock leaves in the pass that had it.
use Rattle.std.specs.Prelude.{◌≡◌, Result}
use Rattle.std.specs.Borrow.{MutBor}
use Rattle.dc_plain.specs.Requests.{Request, answer_of}
use Rattle.dc_plain.specs.declared.call.Stamped.{Stamped}
use Rattle.dc_rows.specs.Guards.{rows_of, seat_of}
use Rattle.dc_rows.specs.RowChanges.{SamePins}
use Rattle.dc_rows.specs.declared.guard.Guard.{Guard}
use Rattle.dc_table.specs.Changes.{Recorded}
use Rattle.dc_table.specs.Passes.{Pass, known, view, share}
use Rattle.dc_table.specs.Shares.{Known, HadOnce}
use Rattle.dc_cache.specs.Answers.{ToldTo}

-- the rows were handed back as the guard had them
abbrev pub KeepsRows : Guard → MutBor Pass → Type 0
KeepsRows g back = (known back.now).left ≡ rows_of g

-- each row was handed back with as many pins as it had
abbrev pub KeepsPins : Guard → MutBor Pass → Type 0
KeepsPins g back = SamePins (rows_of g) (known back.now).left

-- it recorded this call alone, with this reply at this point
abbrev pub Records : Pass → Pass → Request → Stamped → Type 0
Records p q call stamped = Recorded (view p) (view q) call (answer_of stamped.reply) stamped.at

abbrev pub RecordsOne : Guard → MutBor Pass → Request → Stamped → Type 0
RecordsOne g back call stamped = Records (seat_of g) back.now call stamped

-- so it did, or memory for the answer was refused
abbrev pub TellsOne : {E : Type 0} → Guard → MutBor Pass → Request → Result Stamped E → Type 0
TellsOne g back call told = ToldTo (share (seat_of g)).limit (rows_of g).history (view (seat_of g)) (view back.now) call told

-- there was one hold of the lock, under which the rows stayed as they were
pub record ReadsOnce (k l : Known) : Type 0 where
  pub once : HadOnce k l
  pub same_rows : l.left ≡ l.got

-- there was one hold of the lock, under which no pin came to a row or went
pub record FillsOnce (k l : Known) : Type 0 where
  pub once : HadOnce k l
  pub same_pins : SamePins l.got l.left
