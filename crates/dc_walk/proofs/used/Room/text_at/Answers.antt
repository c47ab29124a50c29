use Rattle.std.proofs.Common.{ℕ, List, Some, subst, sym}
use Rattle.dc_row.specs.Spelling.{SpellsText, TellsText}
use Rattle.dc_walk.proofs.used.Room.text_at.Goals as goal

pub of-requires-clause-spelled : goal.of-requires-clause-spelled
of-requires-clause-spelled c = subst SpellsText (sym c.words_at.ensures.words) c.requires.spelled

pub returns : goal.returns
returns c = subst (λ (words : List ℕ). TellsText words (Some c.of.result.text)) c.words_at.ensures.words c.of.ensures.told
