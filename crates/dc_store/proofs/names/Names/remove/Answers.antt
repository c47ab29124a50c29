use Rattle.std.proofs.Common.{◌∙◌}
use Rattle.dc_store.proofs.Named.{found, taken_out}
use Rattle.dc_store.proofs.names.Names.remove.Goals as goal

pub returns-clause-rest : goal.returns-clause-rest
returns-clause-rest c = taken_out c.self.inside.by_name.entries c.self.view_is c.args.name.bytes.now c.new.ensures c.remove.ensures.entries c.remove.ensures.updates.1

pub returns-clause-before : goal.returns-clause-before
returns-clause-before c = c.remove.ensures.value ∙ found c.self.inside.by_name.entries c.self.view_is c.args.name.bytes.now c.new.ensures
