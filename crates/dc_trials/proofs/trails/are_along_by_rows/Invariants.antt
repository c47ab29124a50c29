use Rattle.dc_cache.specs.Passes.{Fits}
use Rattle.dc_trials.proofs.trails.are_along_by_rows.Given as goal

abbrev pub invariant-loop-row : goal.invariant-loop-row
invariant-loop-row g l = Fits l.cache l.pass
