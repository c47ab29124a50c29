use Rattle.std.proofs.Common.{sym, ◌∙◌}
use Rattle.dc_row.specs.Narrow.{widened}
use Rattle.dc_row.proofs.Firsts.{wide_word}
use Rattle.dc_row.proofs.reading.target.Goals as goal

pub returns-clause-told : goal.returns-clause-told
returns-clause-told c = c.leads_to.ensures.told c.args.words.now (sym c.word.ensures) (sym c.value.ensures)

pub returns-clause-narrow : goal.returns-clause-narrow
returns-clause-narrow c = λ long. let words = c.args.words.now in c.leads_to.ensures.told (widened words) (wide_word words 1 ∙ sym c.word.ensures) (wide_word words 3 ∙ sym c.value.ensures)
