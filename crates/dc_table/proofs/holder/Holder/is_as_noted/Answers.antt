use Rattle.std.proofs.lemmas.Bool.{eqb-true}
use Rattle.dc_table.proofs.holder.Holder.is_as_noted.Goals as goal

pub returns : goal.returns
returns c = record { same = c.compare_as.ensures.same; now = λ same. c.compare_as.ensures.now (eqb-true c.compare_as.result c.args.noted same) }
