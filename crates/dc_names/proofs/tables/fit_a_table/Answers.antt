use Rattle.std.proofs.Common.{rules}
use Rattle.dc_names.proofs.tables.fit_a_table.Goals as goal

pub returns-else-is_power_of_two : goal.returns-else-is_power_of_two
returns-else-is_power_of_two c = search rules
