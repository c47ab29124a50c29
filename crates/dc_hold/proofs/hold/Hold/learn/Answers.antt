use Rattle.std.proofs.Common.{rules}
use Rattle.dc_hold.proofs.hold.Hold.learn.Goals as goal

pub returns-clause-come : goal.returns-clause-come
returns-clause-come c = search rules
