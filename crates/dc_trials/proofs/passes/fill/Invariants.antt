use Rattle.dc_cache.specs.Passes.{Fits}
use Rattle.dc_trials.proofs.passes.fill.Given as goal

abbrev pub invariant-loop-i : goal.invariant-loop-i
invariant-loop-i g l = Fits l.cache l.pass
