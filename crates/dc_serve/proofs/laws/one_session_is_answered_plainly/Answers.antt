use Rattle.dc_serve.proofs.Alone.{alone_text}
use Rattle.dc_serve.proofs.laws.one_session_is_answered_plainly.Goals as goal

pub returns : goal.returns
returns c = alone_text
