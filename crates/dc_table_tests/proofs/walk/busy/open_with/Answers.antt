use Rattle.std.proofs.Common.{ℕ, ◌<◌, sym, subst, arith}
use Rattle.dc_rows.proofs.Openable.{can_open}
use Rattle.dc_rows.proofs.Stages.{rows_same}
use Rattle.dc_table_tests.proofs.walk.busy.open_with.Goals as goal

pub open_row-requires : goal.open_row-requires
open_row-requires c = let i = c.loop-i.invariant in
    record { row = (subst (λ (n : ℕ). c.args.row < n) (sym (rows_same _ _ i.pass.same)) c.requires.row, can_open _ _ i.pass _ _ _ i.writing (omega (arith, c.loop-i-test.false)) c.requires.odd c.requires.low c.requires.stands) }
