use Rattle.dc_cache.specs.Passes.{Fits}
use Rattle.dcbench.proofs.race.Race.change_on.Given as goal

abbrev pub invariant-rounds : goal.invariant-rounds
invariant-rounds g l = Fits l.cache l.pass
