use Rattle.std.proofs.Common.{refl, ap}
use Rattle.dc_index.specs.Slots.{has_key}
use Rattle.dc_table_tests.proofs.walk.busy.evict_key.Goals as goal

pub evict_row-requires-clause-key : goal.evict_row-requires-clause-key
evict_row-requires-clause-key c = ap has_key ((c.in-Some.ensures.row c.in-Some.row).0 refl)
