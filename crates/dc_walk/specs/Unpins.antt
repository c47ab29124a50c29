-- What a walk that pinned rows took, and gives back.
use Rattle.std.specs.Prelude.{◌≡◌, ◌⊎◌, ℕ, ◌++◌, ◌∷◌, List, [], Option, Some, None, Result, Ok, Err, map, Bool, true}
use Rattle.dc_rows.specs.RowChanges.{PinsOnly, SamePins}
use Rattle.dc_rows.specs.Outcomes.{UnpinsOnce}
use Rattle.dc_table.specs.Shares.{Known, LockHold}
use Rattle.dc_table.specs.Passes.{Pass, known}
use Rattle.dc_walk.specs.Rooms.{Kept, Used}
use Rattle.dc_walk.specs.declared.rows.Stop.{Stop}

-- the rows that answered
abbrev pub rows_used : List Used → List ℕ
rows_used used = map (λ u. u.row) used

-- the rows whose answers the last walk with this room had
abbrev pub rows_in : Kept → List ℕ
rows_in room = rows_used room.items

-- these rows, and one more that was had and isn't used, if any
abbrev pub with_spare : List ℕ → Option ℕ → List ℕ
with_spare rows None = rows
with_spare rows (Some row) = rows ++ row ∷ []

-- the row that a walk had and didn't use, if it gave up
abbrev pub spare_of : {A : Type 0} → Result A Stop → Option ℕ
spare_of (Ok went) = None
spare_of (Err stop) = stop.spare

-- under these holds, the last first, these rows got a pin each, one after the other; under one that had no row no pin came or went
abbrev pub EachPinned : List LockHold → List ℕ → Type 0
EachPinned [] rows = rows ≡ []
EachPinned (h ∷ holds) rows = (SamePins h.got h.left × EachPinned holds rows)
    ⊎ ((front : List ℕ) × (row : ℕ) × (rows ≡ front ++ row ∷ []) × PinsOnly row h.got h.left × EachPinned holds front)

-- it was so under the holds that have come to those of before
pub record PinsInTurn (before now : List LockHold) (rows : List ℕ) : Type 0 where
  pub holds : List LockHold
  pub more : now ≡ holds ++ before
  pub each : EachPinned holds rows

-- a walk that may lock has pinned the rows in its room since, and one more at most, one pin each
abbrev pub PinsUsed : Bool → Pass → Pass → Kept → Option ℕ → Type 0
PinsUsed locks p q room spare = locks ≡ true → PinsInTurn (known p).past (known q).past (with_spare (rows_in room) spare)

-- under one more hold each of these rows has lost a pin each time that it stands among them, and no other row has; no rows take no hold
abbrev pub IsUnpinned : List ℕ → Known → Known → Type 0
IsUnpinned [] k l = l.past ≡ k.past
IsUnpinned (row ∷ rows) k l = UnpinsOnce (row ∷ rows) k l

-- the holds since k pinned the rows that a walk used, and one more at most, one pin each; the last of them took these pins back, and there was no other
pub record GivesBack (rows : List ℕ) (k l : Known) : Type 0 where
  pub spare : Option ℕ
  pub between : Known
  pub pinned : PinsInTurn k.past between.past (with_spare rows spare)
  pub unpinned : IsUnpinned (with_spare rows spare) between l
