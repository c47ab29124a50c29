use Rattle.dc_cache.specs.Passes.{Fits}
use Rattle.dcbench.proofs.look.change_each.Given as goal

abbrev pub invariant-changes : goal.invariant-changes
invariant-changes g l = Fits l.cache l.pass
