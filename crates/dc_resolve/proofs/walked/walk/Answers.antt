use Rattle.std.proofs.Common.{length, ap, arith}
use Rattle.dc_resolve.proofs.Spending.{may_within, names_within}
use Rattle.dc_resolve.proofs.walked.walk.Goals as goal

pub resolve_from-requires-clause-spend : goal.resolve_from-requires-clause-spend
resolve_from-requires-clause-spend g c = may_within g.F.Finder (omega (arith, names_within c.bytes.result.now, ap length c.bytes.ensures.bytes)) c.requires.spend
