use Rattle.std.proofs.Common.{rules}
use Rattle.dc_names.specs.Paths.{path_in}
use Rattle.dc_plain.specs.Spots.{where_shown}
use Rattle.dc_ops.proofs.Renamed.{settles_by}
use Rattle.dc_ops.proofs.makes.plan_link.Goals as goal

pub link_at-requires : goal.link_at-requires
link_at-requires g c well =
    c.paths_lead_to_the_living.ensures.places (g.S.Store.tree c.args.store.now) c.args.base (path_in c.in_ok-new_path.new_path.bytes.now) (where_shown c.in_ok-to.to) well c.in_ok-to.ensures

pub returns-clause-settled : goal.returns-clause-settled
returns-clause-settled g c =
    settles_by (g.S.Store.tree c.args.store.now) _ _ _ _ c.link_at.result c.link_at.ensures.settled (search rules) (search rules)
