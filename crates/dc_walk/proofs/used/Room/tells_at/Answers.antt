use Rattle.std.proofs.Common.{◌↔◌, ℕ, List, IsTrue, subst}
use Rattle.dc_plain.specs.KeysShown.{key_shown}
use Rattle.dc_row.specs.Spelling.{TellsOf}
use Rattle.dc_walk.proofs.used.Room.tells_at.Goals as goal

pub returns : goal.returns
returns c = subst (λ (words : List ℕ). IsTrue c.tells_by_first.result ↔ TellsOf words (key_shown c.args.key)) c.words_at.ensures.words c.tells_by_first.ensures
