use Rattle.dc_cache.specs.Passes.{Fits}
use Rattle.dc_trials.proofs.whereabouts.are_there.Given as goal

abbrev pub invariant-loop-number : goal.invariant-loop-number
invariant-loop-number g l = Fits l.cache l.pass
