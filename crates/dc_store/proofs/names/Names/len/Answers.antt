use Rattle.dc_store.proofs.Named.{names_sorted}
use Rattle.dc_store.proofs.names.Names.len.Goals as goal

pub returns-clause-sorted : goal.returns-clause-sorted
returns-clause-sorted c = names_sorted c.self.inside.by_name.entries c.self.view_is c.self.invariant
