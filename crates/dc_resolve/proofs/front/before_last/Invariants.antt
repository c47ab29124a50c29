use Rattle.std.proofs.Common.{length}
use Rattle.dc_resolve.specs.Fronts.{IsBefore}
use Rattle.dc_resolve.proofs.front.before_last.Given as goal

abbrev pub invariant-back : goal.invariant-back
invariant-back l = IsBefore l.front l.fn.bytes

abbrev pub decreases-back : goal.decreases-back
decreases-back l = length l.front
