use Rattle.std.proofs.Common.{◌∙◌}
use Rattle.dc_store.proofs.Named.{found}
use Rattle.dc_store.proofs.names.Names.get.Goals as goal

pub returns : goal.returns
returns c = c.copied.ensures ∙ c.get.ensures.value ∙ found c.self.inside.by_name.entries c.self.view_is c.args.name.bytes.now c.new.ensures
