-- What a caller knows of a pass, and when it may take a step.
use Rattle.std.specs.Prelude.{◌≡◌, ℕ, ◌%◌, ◌<◌, true, false, [], ◌∷◌, length, Option as Maybe, None}
use Rattle.atomic_table.specs.declared.shared.Seat.{Seat}
use Rattle.dc_plain.specs.Requests.{Request}
use Rattle.dc_plain.specs.Runs.{alters}
use Rattle.dc_names.specs.declared.limits.TheConstants.{ROW_WORDS}
use Rattle.dc_events.specs.Views.{View}
use Rattle.dc_events.specs.Standing.{tree_of}
use Rattle.dc_events.specs.Rows.{most, count, row_words, IsUntouched}
use Rattle.dc_table.specs.Shares.{Known, Share, HasNotTried}
use Rattle.dc_table.specs.Rows.{MayStand}
use Rattle.dc_table.specs.Boxes.{Boxed}
use Rattle.dc_table.specs.declared.shared.Shared.{Shared}
use Rattle.dc_table.specs.declared.sheet.Sheet.{Sheet}

abbrev pub Pass : Type 0
Pass = Seat (Maybe Boxed) Sheet

abbrev pub known : Pass → Known
known p = p.me.0.known

abbrev pub view : Pass → View
view p = (known p).view

abbrev pub share : Pass → Share
share p = (known p).share

-- the pass is one of the table, and names its sizes
pub record Fits (t : Shared) (p : Pass) : Type 0 where
  pub table : p.table_id ≡ t.table.shared.table_id
  pub rows : (share p).rows ≡ t.limits.rows
  pub limit : (share p).limit ≡ t.limits.max_inodes

-- it is the same pass, with the same share
pub record IsSamePass (p q : Pass) : Type 0 where
  pub table : q.table_id ≡ p.table_id
  pub id : q.id ≡ p.id
  pub same_share : share q ≡ share p

-- the pass has not the lock
pub record IsIdle (p : Pass) : Type 0 where
  pub empty : p.me.1 ≡ []
  pub free : (view p).hold.holds ≡ false
  pub part : 0 < (share p).parts

-- the pass is one of the table, and has not the lock
pub record IsWalker (t : Shared) (p : Pass) : Type 0 where
  pub fits : Fits t p
  pub idle : IsIdle p

-- and this is a row of the table
pub record IsWalkerAt (t : Shared) (p : Pass) (row : ℕ) : Type 0 where
  pub fits : Fits t p
  pub idle : IsIdle p
  pub inside : row < (share p).rows

-- the same pass, which has not tried for the lock
pub record StaysOut (p q : Pass) : Type 0 where
  pub same : IsSamePass p q
  pub idle : IsIdle q
  pub untried : HasNotTried (known p) (known q)

-- it has the lock, and what the lock keeps is out of its slot
pub record IsHolder (p : Pass) : Type 0 where
  pub out : p.me.1 ≡ (0, None) ∷ []
  pub has : (view p).hold.holds ≡ true
  pub part : 0 < (share p).parts

-- an even row whose count may still grow can be shut
pub record CanShut (v : View) (row : ℕ) : Type 0 where
  pub even : count v.hold.words row % 2 ≡ 0
  pub low : count v.hold.words row < most

abbrev pub CanWrite : View → ℕ → Type 0
CanWrite v row = count v.hold.words row % 2 ≡ 1

-- a word of an odd row of the table can be written, from the one after its count on
pub record CanPut (p : Pass) (row word : ℕ) : Type 0 where
  pub inside : row < (share p).rows
  pub odd : CanWrite (view p) row
  pub after_count : 0 < word
  pub within : word < ROW_WORDS

-- an odd row whose words spell what is true now can be opened; with its last count it has to be empty
pub record CanOpen (limit : ℕ) (v : View) (row : ℕ) : Type 0 where
  pub odd : count v.hold.words row % 2 ≡ 1
  pub low : count v.hold.words row < most
  pub stands : MayStand (tree_of limit v.hold.history) v.hold.words row (row_words v.hold.words row)

-- a call that alters the tree can be committed while no even row tells of a key that it touches
pub record CanCommit (limit rows : ℕ) (v : View) (call : Request) : Type 0 where
  pub altering : alters limit (tree_of limit v.hold.history) call ≡ true
  pub early : length v.hold.history < most
  pub untouched : (row : ℕ) → row < rows → IsUntouched limit (tree_of limit v.hold.history) v.hold.words row call

-- a call that alters nothing can be answered
abbrev pub CanAnswer : Share → View → Request → Type 0
CanAnswer s v call = alters s.limit (tree_of s.limit v.hold.history) call ≡ false
