use Rattle.dc_row.proofs.Entries.{has_their_text}
use Rattle.dc_row.proofs.laws.rows_have_their_text.Goals as goal

pub returns : goal.returns
returns c = has_their_text
