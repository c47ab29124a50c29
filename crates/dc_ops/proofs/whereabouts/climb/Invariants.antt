use Rattle.dc_ops.proofs.Climbing.{HasClimbed}
use Rattle.dc_ops.proofs.whereabouts.climb.Given as goal

abbrev pub invariant-climb : goal.invariant-climb
invariant-climb l = HasClimbed l.store l.number l.at l.start l.buffer

abbrev pub decreases-climb : goal.decreases-climb
decreases-climb l = l.start
