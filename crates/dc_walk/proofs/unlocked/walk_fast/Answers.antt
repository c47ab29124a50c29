use Rattle.std.proofs.Common.{refl}
use Rattle.dc_walk.proofs.unlocked.walk_fast.Goals as goal

pub returns-clause-untried : goal.returns-clause-untried
returns-clause-untried c = c.walk_by-fast.ensures.untried refl

pub returns-clause-walks : goal.returns-clause-walks
returns-clause-walks c = c.walk_by-fast.ensures.walks.free refl
