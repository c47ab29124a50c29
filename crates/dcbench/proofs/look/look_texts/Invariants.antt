use Rattle.dc_cache.specs.Passes.{Fits}
use Rattle.dcbench.proofs.look.look_texts.Given as goal

abbrev pub invariant-loop-text : goal.invariant-loop-text
invariant-loop-text g l = Fits l.cache l.pass
