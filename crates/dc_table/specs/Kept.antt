-- The rule of the table: for some history words and views have the rule of the events, the shares add up, the passes' holds are of that history, and the slot has the value after it while the lock is free.
use Rattle.std.specs.Prelude.{◌≡◌, ℕ, false, List, [], ◌∷◌, length, get_or, map, Option as Maybe, Some}
use mathlib.Core.Option.{Option, none, some}
use Rattle.atomic_table.specs.Table.{State}
use Rattle.dc_plain.specs.Requests.{Request}
use Rattle.dc_plain.specs.Trees.{empty_tree}
use Rattle.dc_index.specs.Slots.{slot_of}
use Rattle.dc_index.specs.Slots.Slot.{Free}
use Rattle.dc_shrink.specs.Listings.{is_used}
use Rattle.dc_events.specs.Views.{View}
use Rattle.dc_events.specs.Standing.{tree_of}
use Rattle.dc_events.specs.Rule.{Rule}
use Rattle.dc_table.specs.Shares.{Known, LockHold, Shares, Everyone, Begins, AreBeginnings, AreHoldsOf, first_known}
use Rattle.dc_table.specs.RowStates.{RowState}
use Rattle.dc_table.specs.Rows.{Rest}
use Rattle.dc_table.specs.Boxes.{Boxed}
use Rattle.dc_table.specs.declared.table.Guarded.{Guarded}
use Rattle.dc_table.specs.declared.table.Limits.{Limits}
use Rattle.dc_table.specs.declared.sheet.Sheet.{Sheet}

-- the value has the tree after the history, the clock and the limit, and its index and shrinker fit the rows
pub record HomeFits (limit rows : ℕ) (words : List ℕ) (hist : List Request) (x : Guarded) : Type 0 where
  pub tree : x.store ≡ tree_of limit hist
  pub clock : x.clock ≡ length hist
  pub same_limit : x.max_inodes ≡ limit
  pub rest : Rest x.store rows words x.index x.shrinker

-- while the lock is free the value is in the slot, else it is out
abbrev pub Home : ℕ → ℕ → List ℕ → List (Option (Maybe Boxed)) → List Request → Type 0
Home limit rows words homes hist = (get_or words 1 0 ≡ 0 → (x : Boxed) × (homes ≡ some (Some x) ∷ []) × HomeFits limit rows words hist x.value) × (get_or words 1 0 ≡ 1 → homes ≡ none ∷ [])

abbrev pub known_of : Sheet → Known
known_of s = s.known

abbrev pub knowns : List Sheet → List Known
knowns sheets = map known_of sheets

abbrev pub views_of : List Known → List View
views_of passes = map (λ k. k.view) passes

-- the rows that a pass last got are after a beginning of the history, its holds that are over are of it, and its pivots counted beginnings of it
pub record HasHeld (hist : List Request) (got : RowState) (past : List LockHold) (pivots : List (List Request)) : Type 0 where
  pub last : Begins got.history hist
  pub over : AreHoldsOf hist past
  pub counted : AreBeginnings hist pivots

abbrev pub HoldsFit : List Request → Known → Type 0
HoldsFit hist k = HasHeld hist k.got k.past k.pivots

pub record KeptAt (k : Limits) (s : State (Maybe Boxed) Sheet) (hist : List Request) : Type 0 where
  pub rule : Rule k.max_inodes k.rows s.words (views_of (knowns s.views)) hist
  pub shares : Shares k.max_inodes k.rows (knowns s.views)
  pub holds : Everyone (knowns s.views) (HoldsFit hist)
  pub home : Home k.max_inodes k.rows s.words s.homes hist

abbrev pub Kept : Limits → State (Maybe Boxed) Sheet → Type 0
Kept k s = (hist : List Request) × KeptAt k s hist

abbrev pub sheet_of : Known → Sheet
sheet_of k = record { of = record {}; known = k }

abbrev pub first_sheet : Limits → Sheet
first_sheet k = sheet_of (first_known k.max_inodes k.rows)

-- a value with the root directory alone and no row in use
pub record IsNew (x : Guarded) (rows limit : ℕ) : Type 0 where
  pub tree : x.store ≡ empty_tree
  pub slots : length x.index ≡ rows
  pub free : (row : ℕ) → slot_of x.index row ≡ Free
  pub listed : x.shrinker.rows ≡ rows
  pub unused : (row : ℕ) → is_used x.shrinker row ≡ false
  pub clock : x.clock ≡ 0
  pub same_limit : x.max_inodes ≡ limit
