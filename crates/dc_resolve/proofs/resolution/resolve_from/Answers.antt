use Rattle.std.proofs.Common.{Some, ap, arith, ◌∙◌}
use Rattle.dc_names.specs.declared.limits.TheConstants.{MOST_LINKS}
use Rattle.dc_resolve.specs.Spends.{way_bytes}
use Rattle.dc_resolve.proofs.Needed.{ends_by, may_by}
use Rattle.dc_resolve.proofs.Spending.{may_less, may_start}
use Rattle.dc_resolve.proofs.resolution.resolve_from.Goals as goal

pub start-requires-clause-spend : goal.start-requires-clause-spend
start-requires-clause-spend g c = may_less g.F.Finder (omega arith) c.requires.spend

pub resolve-requires-clause-may : goal.resolve-requires-clause-may
resolve-requires-clause-may g c = let began = c.in_ok-place.ensures in
    may_by g.F.Finder c.args.follow c.args.base c.args.path.bytes.now c.args.parts.now c.args.slash g.met.F.Finder.goes_on g.met.F.Finder.keeps c.requires.may began.kept.becomes (began.start ∙ ap Some c.in-Some.is)

pub resolve-requires-clause-spend : goal.resolve-requires-clause-spend
resolve-requires-clause-spend g c = may_start g.F.Finder (way_bytes g.F.Finder c.args.parts.now MOST_LINKS) c.in_ok-place.ensures.left c.requires.spend

pub returns-in-Some-clause-ends : goal.returns-in-Some-clause-ends
returns-in-Some-clause-ends g c = let began = c.in_ok-place.ensures in
    ends_by _ c.args.follow c.args.base c.args.path.bytes.now c.args.parts.now c.args.slash c.resolve.result (g.met.F.Finder.keeps _ _) c.resolve.ensures.kept.becomes (began.start ∙ ap Some c.in-Some.is) c.resolve.ensures.leads
