use Rattle.std.proofs.Common.{◌≡◌}
use Rattle.dc_rows.specs.Guards.{Keeps, rows_of}
use Rattle.dc_rows.proofs.Pinning.{UnpinsFirst}
use Rattle.dc_rows.proofs.guard.Guard.unpin_all.Given as goal

abbrev pub invariant-loop-row : goal.invariant-loop-row
invariant-loop-row l = record {
  same_reference : l.self.holder.pass.ghost_name ≡ l.fn.self.holder.pass.ghost_name;
  keeps : Keeps l.fn.self l.self;
  rows : UnpinsFirst l.row-index l.rows (rows_of l.fn.self) (rows_of l.self);
}
