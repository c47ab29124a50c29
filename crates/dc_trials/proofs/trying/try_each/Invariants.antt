use Rattle.dc_cache.specs.Passes.{Fits}
use Rattle.dc_trials.proofs.trying.try_each.Given as goal

abbrev pub invariant-loop-asked : goal.invariant-loop-asked
invariant-loop-asked l = Fits l.cache l.pass
