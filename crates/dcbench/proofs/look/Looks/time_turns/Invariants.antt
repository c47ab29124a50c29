use Rattle.dc_cache.specs.Passes.{Fits}
use Rattle.dcbench.proofs.look.Looks.time_turns.Given as goal

abbrev pub invariant-turns : goal.invariant-turns
invariant-turns g l = Fits l.cache l.pass
