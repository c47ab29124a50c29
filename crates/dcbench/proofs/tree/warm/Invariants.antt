use Rattle.dc_cache.specs.Passes.{Fits}
use Rattle.dcbench.proofs.tree.warm.Given as goal

abbrev pub invariant-loop-path : goal.invariant-loop-path
invariant-loop-path g l = Fits l.cache l.pass
