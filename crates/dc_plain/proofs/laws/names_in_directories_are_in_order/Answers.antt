use Rattle.dc_plain.proofs.Living.{spots-tie}
use Rattle.dc_plain.proofs.Made.{spots_total}
use Rattle.dc_plain.proofs.laws.names_in_directories_are_in_order.Goals as goal

pub returns : goal.returns
returns c = record { total = spots_total; ties = spots-tie }
