use Rattle.dc_cache.specs.Passes.{Fits}
use Rattle.dcsweep.proofs.trial.make_each.Given as goal

abbrev pub invariant-loop-line : goal.invariant-loop-line
invariant-loop-line g l = Fits l.cache l.pass
