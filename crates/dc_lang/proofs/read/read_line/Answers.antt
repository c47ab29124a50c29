use Rattle.dc_lang.proofs.Lines.{means_what_is_read, bad_means_nothing}
use Rattle.dc_lang.proofs.read.read_line.Goals as goal

pub returns-clause-ok : goal.returns-clause-ok
returns-clause-ok c = means_what_is_read c.args.line.now c.read.result c.read.ensures

pub returns-clause-bad : goal.returns-clause-bad
returns-clause-bad c = bad_means_nothing c.args.line.now c.read.result c.read.ensures
