use Rattle.std.proofs.Common.{rules}
use Rattle.dc_table.proofs.Walks.{learns_clock}
use Rattle.dc_table.proofs.shared.Shared.learn.Goals as goal

pub load-requires : goal.load-requires
load-requires c = let idle = c.requires.pass.1 in (search rules, search rules, learns_clock _ c.events_keep_the_rule.ensures.walkers _ _ _ idle.part)
