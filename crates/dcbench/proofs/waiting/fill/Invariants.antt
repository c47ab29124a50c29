use Rattle.dc_cache.specs.Passes.{Fits}
use Rattle.dcbench.proofs.waiting.fill.Given as goal

abbrev pub invariant-parts : goal.invariant-parts
invariant-parts g l = Fits l.cache l.pass
