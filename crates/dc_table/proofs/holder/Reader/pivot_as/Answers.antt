use Rattle.std.proofs.Common.{ap, rules}
use Rattle.dc_table.specs.Passes.{known}
use Rattle.dc_table.specs.Plays.{Place, known_at}
use Rattle.dc_table.proofs.Walks.{pivots_clock}
use Rattle.dc_table.proofs.holder.Reader.pivot_as.Goals as goal

pub load-requires : goal.load-requires
load-requires g c = let a = c.requires.asked in let idle = c.requires.can.0.idle in (search rules, search rules, rw (a.0, a.1) (pivots_clock _ c.events_keep_the_rule.ensures.walkers _ _ _ _ c.args.first idle.part c.requires.can.1))

pub returns-clause-counts : goal.returns-clause-counts
returns-clause-counts g c = let turned = c.load.ensures.2.0 in
    record { history = turned.0; earlier = (known c.args.pass.now).pivots; clock_is = turned.1; now = ap (λ (m : Place). (known_at m).pivots) turned.2 }
