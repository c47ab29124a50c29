use Rattle.dc_store.proofs.SlotSteps.{added, added-IsKept, no_key}
use Rattle.dc_store.proofs.inodes.Inodes.insert.Goals as goal

pub insert-requires-2 : goal.insert-requires-2
insert-requires-2 c = no_key c.self.invariant c.self.view_is c.args.number c.requires

pub invariant_of-self-in-Ok-insert : goal.invariant_of-self-in-Ok-insert
invariant_of-self-in-Ok-insert c =
    added-IsKept c.self.invariant c.self.view_is c.args.number c.in-Ok.ensures.was_vacant c.in-Ok.ensures.updates c.insert-2.new.self c.insert-2.ensures.ordered c.in-Ok-insert.ensures.ok
    c.in-Ok-insert.ensures.longer c.in-Ok.ensures.len

pub returns-clause-ok : goal.returns-clause-ok
returns-clause-ok c = added c.self.invariant c.self.view_is c.args.number c.in-Ok.ensures.was_vacant c.in-Ok.ensures.updates c.insert-2.new.self c.insert-2.ensures.ordered c.in-Ok-insert.ensures.ok
