use Rattle.std.proofs.Common.{◌≡◌}
use Rattle.dc_rows.specs.Changes.{OnlyWrites}
use Rattle.dc_rows.specs.Rows.{Writing}
use Rattle.dc_table.specs.Changes.{words_of}
use Rattle.dc_table_tests.proofs.walk.busy.open_with.Given as goal

abbrev pub invariant-loop-i : goal.invariant-loop-i
invariant-loop-i l = record {
  same_reference : l.holder.pass.ghost_name ≡ l.fn.holder.pass.ghost_name;
  pass : OnlyWrites l.fn.holder.pass.now l.holder.pass.now;
  writing : Writing (words_of l.fn.holder.pass.now) (words_of l.holder.pass.now) l.row l.words l.i;
}
