use Rattle.dc_row.proofs.Firsts.{ends_in_zeros}
use Rattle.dc_row.proofs.laws.rows_end_in_zeros.Goals as goal

pub returns : goal.returns
returns c = ends_in_zeros
