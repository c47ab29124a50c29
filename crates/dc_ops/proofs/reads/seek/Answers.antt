use Rattle.std.proofs.Common.{ap}
use Rattle.dc_plain.specs.Operations.{change_of}
use Rattle.dc_plain.specs.Requests.{request_of}
use Rattle.dc_ops.proofs.Alters.{reads_so}
use Rattle.dc_ops.proofs.reads.seek.Goals as goal

pub returns-in-Look : goal.returns-in-Look
returns-in-Look g c limit =
    let t = g.S.Store.tree c.args.store.now in
    reads_so c.alters_tells_whether_trees_differ.ensures limit t (request_of c.args.call.now) _ _ (ap (λ call. change_of limit t (request_of call)) c.in-Look.is) c.look.ensures

pub returns-in-Stat : goal.returns-in-Stat
returns-in-Stat g c limit =
    let t = g.S.Store.tree c.args.store.now in
    reads_so c.alters_tells_whether_trees_differ.ensures limit t (request_of c.args.call.now) _ _ (ap (λ call. change_of limit t (request_of call)) c.in-Stat.is) c.stat.ensures
