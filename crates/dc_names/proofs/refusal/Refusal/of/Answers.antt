use Rattle.dc_names.proofs.Numbered.{numbers_found}
use Rattle.dc_names.proofs.refusal.Refusal.of.Goals as goal

pub returns : goal.returns
returns c = rw c.first_with.ensures (numbers_found c.args.number)
