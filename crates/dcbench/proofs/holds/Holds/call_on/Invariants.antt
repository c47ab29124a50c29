use Rattle.dc_cache.specs.Passes.{Fits}
use Rattle.dcbench.proofs.holds.Holds.call_on.Given as goal

abbrev pub invariant-calls : goal.invariant-calls
invariant-calls g l = Fits l.cache l.pass
