use Rattle.std.proofs.Common.{arith}
use Rattle.dc_row.proofs.Filled.{filled}
use Rattle.dc_row.proofs.text.RowText.of.Goals as goal

pub invariant_of-result : goal.invariant_of-result
invariant_of-result c = filled c.args.bytes.now c.copy_from_slice.new.self c.copy_from_slice.ensures.after (omega arith)
