use Rattle.dc_cache.specs.Passes.{Fits}
use Rattle.dc_trials.proofs.trails.are_along.Given as goal

abbrev pub invariant-loop-base : goal.invariant-loop-base
invariant-loop-base l = Fits l.cache l.pass
