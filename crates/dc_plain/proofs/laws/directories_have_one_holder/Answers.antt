use Rattle.dc_plain.proofs.Living.{one-name, climbs-end, climbs-go}
use Rattle.dc_plain.proofs.laws.directories_have_one_holder.Goals as goal

pub returns : goal.returns
returns c = record { named = one-name; unheld = climbs-end; up = climbs-go }
