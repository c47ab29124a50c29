use Rattle.dc_cache.specs.Passes.{Fits}
use Rattle.dc_soak.proofs.thread.Thread.run.Given as goal

abbrev pub invariant-steps : goal.invariant-steps
invariant-steps g l = Fits l.cache l.pass
