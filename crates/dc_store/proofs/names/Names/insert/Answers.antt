use Rattle.std.proofs.Common.{◌∙◌}
use Rattle.dc_store.proofs.Named.{entered, found}
use Rattle.dc_store.proofs.names.Names.insert.Goals as goal

pub returns-clause-ok : goal.returns-clause-ok
returns-clause-ok c = entered c.self.inside.by_name.entries c.self.view_is c.args.name.bytes.now c.in_ok-key.ensures c.args.number c.in_ok-insert.ensures.entries

pub returns-clause-before : goal.returns-clause-before
returns-clause-before c = c.in_ok-insert.ensures.old ∙ found c.self.inside.by_name.entries c.self.view_is c.args.name.bytes.now c.in_ok-key.ensures
