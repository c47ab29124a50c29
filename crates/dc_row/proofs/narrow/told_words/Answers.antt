use Rattle.std.proofs.Common.{rules}
use Rattle.dc_row.proofs.narrow.told_words.Goals as goal

pub returns-clause-told : goal.returns-clause-told
returns-clause-told c = search rules
