use Rattle.std.proofs.Common.{◌↔◌, IsTrue, None, subst}
use Rattle.dc_row.specs.Spelling.{Spells}
use Rattle.dc_core.proofs.Rowed.{blank_row, through}
use Rattle.dc_core.proofs.state.State.is_empty.Goals as goal

pub returns : goal.returns
returns c = subst (λ ws. IsTrue c.is_blank.result ↔ Spells ws None) c.row.ensures (through c.is_blank.ensures (blank_row c.row.result.now c.decode.result c.decode.ensures.spelled c.decode.ensures.any))
