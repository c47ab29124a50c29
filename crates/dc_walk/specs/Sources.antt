-- Where a walk has its rows from.
use Rattle.std.specs.Prelude.{◌≡◌, ◌⊎◌, ℕ, ◌+◌, ◌/◌, ◌≤◌, Bool, false, true, Option, Some, None, Result, Ok, Err}
use Rattle.dc_names.specs.declared.NoMemory.{NoMemory}
use Rattle.dc_plain.specs.Facts.{Key}
use Rattle.dc_events.specs.Views.{View}
use Rattle.dc_table.specs.Changes.{NothingNew}
use Rattle.dc_table.specs.Passes.{Pass, known}
use Rattle.dc_rows.specs.RowChanges.{PinsOnly, SamePins}
use Rattle.dc_table.specs.RowStates.{RowState}
use Rattle.dc_table.specs.Shares.{HasNotTried, HadOnce, Known}
use Rattle.dc_walk.specs.Asking.{first_row}
use Rattle.dc_names.specs.declared.limits.TheConstants.{BUCKET_ROWS}
use Rattle.dc_walk.specs.declared.source.Lane.{Lane}

-- a source that may take the lock has had it and given it back; another did nothing
pub record Rests (locks : Bool) (v w : View) : Type 0 where
  pub rest : w ≡ record v { book = w.book; hold = w.hold }
  pub nothing : NothingNew v w
  pub still : locks ≡ false → w ≡ v

-- if no lock is taken, none was tried for
abbrev pub IsUntried : Bool → Pass → Pass → Type 0
IsUntried locks p q = locks ≡ false → HasNotTried (known p) (known q)

-- rows of a table of this many, and no more than a bucket has
pub record LiesIn (rows : ℕ) (lane : Lane) : Type 0 where
  pub within : lane.first + lane.len ≤ rows
  pub few : lane.len ≤ BUCKET_ROWS

-- these are those of the key's bucket if the source takes no lock
pub record Serves (locks : Bool) (rows : ℕ) (key : Key) (lane : Lane) : Type 0 where
  pub lies : LiesIn rows lane
  pub bucket : locks ≡ false → (lane.first ≡ first_row (rows / BUCKET_ROWS) key) × (lane.len ≡ BUCKET_ROWS)

-- the only row of a lane got one pin; or there is no row, and no pin came or went
abbrev pub PinsLane : RowState → RowState → Result Lane NoMemory → Type 0
PinsLane s t (Ok lane) = ((lane.len ≡ 1) × PinsOnly lane.first s t) ⊎ ((lane.len ≡ 0) × SamePins s t)
PinsLane s t (Err fault) = SamePins s t

-- under one hold of the lock
pub record HasLane (k l : Known) (result : Result Lane NoMemory) : Type 0 where
  pub once : HadOnce k l
  pub pins : PinsLane l.got l.left result

-- if the lock is taken, it is so
abbrev pub PinsIts : Bool → Pass → Pass → Result Lane NoMemory → Type 0
PinsIts locks p q result = locks ≡ true → HasLane (known p) (known q) result

-- the first row of a lane, if it has one
abbrev pub IsHead : Lane → Option ℕ → Type 0
IsHead lane (Some row) = (row ≡ lane.first) × (1 ≤ lane.len)
IsHead lane None = lane.len ≡ 0
