use Rattle.dc_cache.specs.Passes.{Fits}
use Rattle.dc_trials.proofs.races.make_above.Given as goal

abbrev pub invariant-loop-end : goal.invariant-loop-end
invariant-loop-end g l = Fits l.cache l.pass
