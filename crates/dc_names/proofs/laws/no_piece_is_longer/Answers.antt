use Rattle.dc_names.proofs.Short.{none_long_in}
use Rattle.dc_names.proofs.laws.no_piece_is_longer.Goals as goal

pub returns : goal.returns
returns c = none_long_in
