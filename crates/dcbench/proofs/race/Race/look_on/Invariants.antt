use Rattle.dc_cache.specs.Passes.{Fits}
use Rattle.dcbench.proofs.race.Race.look_on.Given as goal

abbrev pub invariant-looks : goal.invariant-looks
invariant-looks g l = Fits l.cache l.pass
