use Rattle.dc_cache.specs.Passes.{Fits}
use Rattle.dc_trials.proofs.storms.are_told.Given as goal

abbrev pub invariant-loop-name : goal.invariant-loop-name
invariant-loop-name g l = Fits l.cache l.pass
