use Rattle.std.proofs.Common.{rules}
use Rattle.dc_table.proofs.Moves.{takes_lock, with_rest}
use Rattle.dc_table.proofs.shared.Shared.try_take.Goals as goal

pub compare_exchange-requires : goal.compare_exchange-requires
compare_exchange-requires c = let idle = c.requires.pass.1 in (search rules, search rules, takes_lock _ c.events_keep_the_rule.ensures.holders _ _ _ idle.empty idle.part)

pub exchange-requires : goal.exchange-requires
exchange-requires c = let t = c.compare_exchange.ensures.2.0 (search rules) in (search rules, (_, with_rest _ _ t.1))
