use Rattle.dc_cache.specs.Passes.{Fits}
use Rattle.dcsweep.proofs.later.are_unpinned.Given as goal

abbrev pub invariant-loop-path : goal.invariant-loop-path
invariant-loop-path g l = Fits l.cache l.pass

abbrev pub invariant-loop-path-2 : goal.invariant-loop-path-2
invariant-loop-path-2 g l = Fits l.cache l.pass
