use Rattle.dc_row.proofs.Decoded.{spelled_is_read}
use Rattle.dc_row.proofs.laws.words_have_the_fact_they_spell.Goals as goal

pub returns : goal.returns
returns c = spelled_is_read
