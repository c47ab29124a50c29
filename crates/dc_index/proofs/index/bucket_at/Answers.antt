use Rattle.std.proofs.Common.{sym}
use Rattle.std.proofs.lemmas.Bool.{eqb-true}
use Rattle.dc_index.proofs.Powers.{and_one_bit}
use Rattle.dc_index.proofs.index.bucket_at.Goals as goal

pub returns-then-is_power_of_two : goal.returns-then-is_power_of_two
returns-then-is_power_of_two c = and_one_bit c.args.hash c.args.buckets (eqb-true _ _ (sym c.if-is_power_of_two.ensures))
