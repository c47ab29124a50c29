use Rattle.std.proofs.Common.{IsTrue, sym, subst}
use Rattle.dc_names.specs.Names.{part_shown}
use Rattle.dc_resolve.specs.Asked.{may_be_found}
use Rattle.dc_ops.proofs.finder.StoreFinderFinder.find.Goals as goal

pub returns-in-DotDot-clause-kind : goal.returns-in-DotDot-clause-kind
returns-in-DotDot-clause-kind g c = subst (λ part. IsTrue (may_be_found (part_shown part) c.up.result)) (sym c.in-DotDot.is) c.up.ensures.directory
