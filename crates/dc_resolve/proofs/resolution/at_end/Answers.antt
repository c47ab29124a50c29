use Rattle.dc_resolve.proofs.Passing.{ends_here}
use Rattle.dc_resolve.proofs.resolution.at_end.Goals as goal

pub returns-then-is_last-clause-leads : goal.returns-then-is_last-clause-leads
returns-then-is_last-clause-leads c said = ends_here said c.args.follow c.args.links c.args.slash c.args.is_last c.args.place c.ending.result c.if-is_last.true c.ending.ensures
