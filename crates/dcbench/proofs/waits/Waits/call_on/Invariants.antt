use Rattle.dc_cache.specs.Passes.{Fits}
use Rattle.dcbench.proofs.waits.Waits.call_on.Given as goal

abbrev pub invariant-calls : goal.invariant-calls
invariant-calls g l = Fits l.cache l.pass
