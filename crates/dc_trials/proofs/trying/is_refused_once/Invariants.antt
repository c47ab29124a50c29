use Rattle.dc_cache.specs.Passes.{Fits}
use Rattle.dc_trials.proofs.trying.is_refused_once.Given as goal

abbrev pub invariant-loop-number : goal.invariant-loop-number
invariant-loop-number l = Fits l.cache l.pass
