use Rattle.dc_cache.specs.Calls.{NothingNew}
use Rattle.dc_cache.specs.Passes.{view, Fits}
use Rattle.dc_uses.proofs.retry.change_in_tries.Given as goal

abbrev pub invariant-loop : goal.invariant-loop
invariant-loop l = Fits l.cache l.pass × NothingNew (view l.fn.pass) (view l.pass)
