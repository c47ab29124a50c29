use Rattle.dc_names.specs.declared.limits.TheConstants.{MOST_LINKS}
use Rattle.dc_resolve.proofs.Needed.{alone_over}
use Rattle.dc_resolve.proofs.Passing.{leads_alone}
use Rattle.dc_resolve.proofs.resolution.resolve.Goals as goal

pub walk_bytes-requires-clause-may : goal.walk_bytes-requires-clause-may
walk_bytes-requires-clause-may g c = alone_over g.F.Finder c.args.follow MOST_LINKS c.args.slash c.args.place c.args.parts.now c.requires.may

pub returns-clause-leads : goal.returns-clause-leads
returns-clause-leads g c = leads_alone c.in_ok-end.ensures.leads c.in-Ended.is
