use Rattle.dc_plain.proofs.Refusing.{refusals-spare}
use Rattle.dc_plain.proofs.laws.refusals_alter_nothing.Goals as goal

pub returns : goal.returns
returns c = refusals-spare
