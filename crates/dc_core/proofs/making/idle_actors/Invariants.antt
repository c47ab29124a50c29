use Rattle.std.proofs.Common.{◌≡◌, ◌≤◌, ◌-◌, map, replicate}
use Rattle.dc_core.specs.Machine.{idle}
use Rattle.dc_core.specs.Shown.{actor_shown}
use Rattle.dc_core.proofs.making.idle_actors.Given as goal

abbrev pub invariant-loop-made : goal.invariant-loop-made
invariant-loop-made l = record {
  within : l.made ≤ l.actors;
  idle_all : map actor_shown l.idlers.items ≡ replicate l.made idle;
}

abbrev pub decreases-loop-made : goal.decreases-loop-made
decreases-loop-made l = l.actors - l.made
