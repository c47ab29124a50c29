use Rattle.std.proofs.Common.{ap}
use Rattle.dc_plain.specs.Operations.{change_of}
use Rattle.dc_plain.specs.Requests.{answer_of, request_of}
use Rattle.dc_ops.proofs.Alters.{reads_if}
use Rattle.dc_ops.proofs.reads.ask.Goals as goal

pub returns-in-Readlink-clause-ok : goal.returns-in-Readlink-clause-ok
returns-in-Readlink-clause-ok g c =
    let t = g.S.Store.tree c.args.store.now in
    reads_if c.alters_tells_whether_trees_differ.ensures t (request_of c.args.call.now) _ answer_of c.read_link.result (λ limit. ap (λ call. change_of limit t (request_of call)) c.in-Readlink.is) c.read_link.ensures.ok

pub returns-in-List-clause-ok : goal.returns-in-List-clause-ok
returns-in-List-clause-ok g c =
    let t = g.S.Store.tree c.args.store.now in
    reads_if c.alters_tells_whether_trees_differ.ensures t (request_of c.args.call.now) _ answer_of c.list.result (λ limit. ap (λ call. change_of limit t (request_of call)) c.in-List.is) c.list.ensures.ok
