use Rattle.dc_cache.specs.Passes.{Fits}
use Rattle.dcbench.proofs.waiting.time_of_a_list.Given as goal

abbrev pub invariant-lists : goal.invariant-lists
invariant-lists g l = Fits l.cache l.pass
