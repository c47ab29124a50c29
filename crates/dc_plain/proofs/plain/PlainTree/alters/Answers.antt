use Rattle.dc_plain.specs.Requests.{request_of}
use Rattle.dc_plain.proofs.SameTree.{alters_found}
use Rattle.dc_plain.proofs.plain.PlainTree.alters.Goals as goal

pub returns : goal.returns
returns c = record {
  alters = c.has_change.ensures;
  test = alters_found c.has_change.result c.args.self.now.limit c.args.self.now.tree (request_of c.args.call.now) c.has_change.ensures;
}
