use Rattle.dc_plain.specs.declared.call.Follow.TheVariants.{Yes}
use Rattle.dc_ops.proofs.Goes.{stat_told}
use Rattle.dc_ops.proofs.reads.stat.Goals as goal

pub returns-in-Ok : goal.returns-in-Ok
returns-in-Ok g c =
    let t = g.S.Store.tree c.args.store.now in
    let found = c.in-Ok.ensures in
    let lives = c.paths_lead_to_the_living.ensures.walks t c.args.base c.args.path.now Yes (c.in-Ok.number, c.in-Ok.kind) c.count.ensures.well found in
    stat_told t c.args.base c.args.path.now (c.in-Ok.number, c.in-Ok.kind) c.count.result found lives c.count.ensures.count
