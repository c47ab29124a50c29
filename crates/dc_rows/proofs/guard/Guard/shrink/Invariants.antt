use Rattle.std.proofs.Common.{◌≡◌, ◌≤◌, length}
use Rattle.dc_rows.specs.Guards.{Keeps, rows_of}
use Rattle.dc_rows.specs.RowChanges.{EmptiesLast}
use Rattle.dc_rows.proofs.guard.Guard.shrink.Given as goal

abbrev pub invariant-loop-emptied : goal.invariant-loop-emptied
invariant-loop-emptied l = record {
  same_reference : l.self.holder.pass.ghost_name ≡ l.fn.self.holder.pass.ghost_name;
  keeps : Keeps l.fn.self l.self;
  some : l.emptied ≤ length (rows_of l.fn.self).used.listed;
  rows : EmptiesLast l.emptied (rows_of l.fn.self) (rows_of l.self);
}
