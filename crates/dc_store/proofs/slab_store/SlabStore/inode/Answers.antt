use Rattle.dc_store.proofs.Keeps.{keeps_now}
use Rattle.dc_store.proofs.KeepsRead.{inode_shown, inode_told, none_told}
use Rattle.dc_store.proofs.slab_store.SlabStore.inode.Goals as goal

pub returns-clause-shown : goal.returns-clause-shown
returns-clause-shown c = inode_shown (keeps_now c.self.invariant c.self.view_is) c.args.number c.get.result c.get.ensures.value

pub returns-clause-kept : goal.returns-clause-kept
returns-clause-kept c = inode_told (keeps_now c.self.invariant c.self.view_is) c.args.number c.get.result c.get.ensures.value

pub returns-clause-absent : goal.returns-clause-absent
returns-clause-absent c = none_told (keeps_now c.self.invariant c.self.view_is) c.args.number c.get.result c.get.ensures.value
