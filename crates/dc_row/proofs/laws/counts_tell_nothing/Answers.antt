use Rattle.dc_row.proofs.Compared.{any_count}
use Rattle.dc_row.proofs.laws.counts_tell_nothing.Goals as goal

pub returns : goal.returns
returns c = any_count
