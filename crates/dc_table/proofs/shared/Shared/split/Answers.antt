use Rattle.std.proofs.Common.{rules}
use Rattle.dc_table.proofs.Ending.{splits_seat}
use Rattle.dc_table.proofs.shared.Shared.split.Goals as goal

pub split_seat-requires : goal.split_seat-requires
split_seat-requires c = (search rules, search rules, splits_seat _ c.passes_keep_the_rule.ensures _ _)
