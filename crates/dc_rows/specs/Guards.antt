-- What a caller knows of the guard of the rows.
use Rattle.std.specs.Prelude.{◌≡◌}
use Rattle.dc_table.specs.RowStates.{RowState}
use Rattle.dc_table.specs.Changes.{words_of}
use Rattle.dc_table.specs.Holders.{pass_of, rows_held, StaysAsIs}
use Rattle.dc_table.specs.Passes.{Pass, view}
use Rattle.dc_table.specs.Plays.{rows_as}
use Rattle.dc_table.specs.declared.table.Guarded.{Guarded}
use Rattle.dc_rows.specs.Changes.{OnlyWrites, KeepsTree}
use Rattle.dc_rows.specs.declared.guard.Guard.{Guard}

-- the pass that has the lock
abbrev pub seat_of : Guard → Pass
seat_of g = pass_of g.holder

-- what the lock guards
abbrev pub kept_by : Guard → Guarded
kept_by g = g.guarded.value

-- the rows of a pass that has the lock, with what it guards
abbrev pub rows_at : Pass → Guarded → RowState
rows_at p x = rows_as (view p).hold.history (words_of p) x

-- the rows as the guard has them
abbrev pub rows_of : Guard → RowState
rows_of g = rows_held g.holder (kept_by g)

-- words of rows were written, and which row has which key and is in use may be another; the tree is the same
pub record Keeps (g h : Guard) : Type 0 where
  pub only : OnlyWrites (seat_of g) (seat_of h)
  pub tree : KeepsTree (kept_by g) (kept_by h)

-- nothing was done, and the pass knows what it knew
pub record IsStill (g h : Guard) : Type 0 where
  pub holder : StaysAsIs g.holder h.holder
  pub kept : kept_by h ≡ kept_by g
