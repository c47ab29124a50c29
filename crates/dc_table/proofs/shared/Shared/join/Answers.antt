use Rattle.std.proofs.Common.{rules}
use Rattle.dc_table.proofs.Ending.{joins_seat}
use Rattle.dc_table.proofs.shared.Shared.join.Goals as goal

pub join_seat-requires : goal.join_seat-requires
join_seat-requires c = (search rules, search rules, search rules, search rules, joins_seat _ c.passes_keep_the_rule.ensures _ _ _ _ c.requires.pass.1.part c.requires.other.1.free)
