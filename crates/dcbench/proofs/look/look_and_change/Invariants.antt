use Rattle.dc_cache.specs.Passes.{Fits}
use Rattle.dcbench.proofs.look.look_and_change.Given as goal

abbrev pub invariant-parts : goal.invariant-parts
invariant-parts g l = Fits l.cache l.pass
