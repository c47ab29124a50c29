use Rattle.dc_cache.specs.Passes.{Fits}
use Rattle.dcsweep.proofs.later.answer_alike.Given as goal

abbrev pub invariant-loop-line : goal.invariant-loop-line
invariant-loop-line g l = Fits l.cache l.pass × Fits l.twin l.other
