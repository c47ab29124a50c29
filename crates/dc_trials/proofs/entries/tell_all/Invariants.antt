use Rattle.dc_cache.specs.Passes.{Fits}
use Rattle.dc_trials.proofs.entries.tell_all.Given as goal

abbrev pub invariant-loop-place : goal.invariant-loop-place
invariant-loop-place g l = Fits l.cache l.pass
