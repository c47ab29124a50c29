use Rattle.std.proofs.Common.{◌≡◌, ◌≤◌}
use Rattle.dc_sleepers.specs.declared.lock.Place.TheVariants.{Trying}
use Rattle.dc_table.specs.Passes.{IsIdle, IsSamePass, known}
use Rattle.dc_table.proofs.shared.Shared.take.Given as goal

abbrev pub invariant-loop : goal.invariant-loop
invariant-loop g l = let k = known l.initial.pass in record {
  same : IsSamePass l.initial.pass l.pass;
  idle : IsIdle l.pass;
  now : known l.pass ≡ record k { tries = (known l.pass).tries };
  tried : k.tries ≤ (known l.pass).tries;
  trying : (g.W.Waits.thread l.turn).place ≡ Trying;
}
