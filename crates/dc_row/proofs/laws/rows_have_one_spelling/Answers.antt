use Rattle.dc_row.proofs.Compared.{spelled_alike}
use Rattle.dc_row.proofs.laws.rows_have_one_spelling.Goals as goal

pub returns : goal.returns
returns c = λ fact v w s t. spelled_alike s t
