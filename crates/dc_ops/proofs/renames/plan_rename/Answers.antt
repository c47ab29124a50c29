use Rattle.std.proofs.Common.{rules}
use Rattle.dc_names.specs.Paths.{path_in}
use Rattle.dc_plain.specs.Spots.{where_shown}
use Rattle.dc_ops.proofs.Renamed.{settles_so}
use Rattle.dc_ops.proofs.Takings.{rename_takes, where_by}
use Rattle.dc_ops.proofs.renames.plan_rename.Goals as goal

pub plan_named-requires-clause-old_held : goal.plan_named-requires-clause-old_held
plan_named-requires-clause-old_held g c well =
    c.paths_lead_to_the_living.ensures.places (g.S.Store.tree c.args.store.now) c.args.base (path_in c.in_ok-old_path.old_path.bytes.now) (where_shown c.in_ok-from.from) well c.in_ok-from.ensures

pub plan_named-requires-clause-new_held : goal.plan_named-requires-clause-new_held
plan_named-requires-clause-new_held g c well =
    c.paths_lead_to_the_living.ensures.places (g.S.Store.tree c.args.store.now) c.args.base (path_in c.in_ok-new_path.new_path.bytes.now) (where_shown c.in_ok-to.to) well c.in_ok-to.ensures

pub returns-clause-settled : goal.returns-clause-settled
returns-clause-settled g c =
    settles_so (g.S.Store.tree c.args.store.now) _ _ _ _ c.plan_named.result c.plan_named.ensures.settled (search rules) (search rules)

pub returns-clause-taken : goal.returns-clause-taken
returns-clause-taken g c =
    let t = g.S.Store.tree c.args.store.now in
    rename_takes t c.in_ok-from.from c.in_ok-old_name.old_name c.in_ok-to.to c.in_ok-new_name.new_name c.args.base c.args.old.now c.args.new.now c.args.flags c.plan_named.result
    (where_by t c.args.base c.args.old.now c.in_ok-old_path.ensures.path c.in_ok-from.ensures) (where_by t c.args.base c.args.new.now c.in_ok-new_path.ensures.path c.in_ok-to.ensures)
    c.in_ok-old_name.ensures.named c.in_ok-new_name.ensures.named c.plan_named.ensures.taken
