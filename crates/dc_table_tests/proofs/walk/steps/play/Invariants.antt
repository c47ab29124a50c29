use Rattle.dc_walk.specs.Findings.{CanWalk}
use Rattle.dc_table_tests.proofs.walk.steps.play.Given as goal

abbrev pub invariant-loop-number : goal.invariant-loop-number
invariant-loop-number g l = CanWalk l.shared l.pass
