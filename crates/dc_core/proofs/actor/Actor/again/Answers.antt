use Rattle.std.proofs.Common.{ap, None}
use Rattle.dc_core.specs.Shown.{actor_shown, walk_shown}
use Rattle.dc_core.proofs.actor.Actor.again.Goals as goal

pub returns : goal.returns
returns c = let one = c.args.self.now in ap (λ notes. record (actor_shown one) { walk = walk_shown one.call notes None }) c.clear.ensures.items
