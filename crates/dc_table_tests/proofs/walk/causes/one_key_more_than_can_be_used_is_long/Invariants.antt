use Rattle.dc_walk.specs.Findings.{CanWalk}
use Rattle.dc_table_tests.proofs.walk.causes.one_key_more_than_can_be_used_is_long.Given as goal

abbrev pub invariant-loop-i : goal.invariant-loop-i
invariant-loop-i g l = CanWalk l.shared l.p
