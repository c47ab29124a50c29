use Rattle.dc_table.specs.Passes.{Fits, IsIdle}
use Rattle.dc_table_tests.proofs.rows.fill.Given as goal

abbrev pub invariant-loop-tens : goal.invariant-loop-tens
invariant-loop-tens g l = Fits l.shared l.pass × IsIdle l.pass

abbrev pub invariant-loop-ones : goal.invariant-loop-ones
invariant-loop-ones g l = Fits l.shared l.pass × IsIdle l.pass
