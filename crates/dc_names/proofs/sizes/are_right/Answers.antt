use Rattle.std.proofs.Common.{rules}
use Rattle.dc_names.proofs.sizes.are_right.Goals as goal

pub returns-then-is_power_of_two : goal.returns-then-is_power_of_two
returns-then-is_power_of_two c = search rules
