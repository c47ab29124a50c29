use Rattle.dc_ops.proofs.Alters.{settles_some}
use Rattle.dc_ops.proofs.Takings.{takes_some}
use Rattle.dc_ops.proofs.dispatch.found.Goals as goal

pub returns-in-Mkdir-clause-settled : goal.returns-in-Mkdir-clause-settled
returns-in-Mkdir-clause-settled g c = settles_some c.args.limit (g.S.Store.tree c.args.store.now) _ _ _ _ c.in-Mkdir.is c.some.ensures.ok c.some.ensures.err c.plan_make.ensures.settled

pub returns-in-Create-clause-settled : goal.returns-in-Create-clause-settled
returns-in-Create-clause-settled g c = settles_some c.args.limit (g.S.Store.tree c.args.store.now) _ _ _ _ c.in-Create.is c.some-in-Create.ensures.ok c.some-in-Create.ensures.err c.plan_make-in-Create.ensures.settled

pub returns-in-Symlink-clause-settled : goal.returns-in-Symlink-clause-settled
returns-in-Symlink-clause-settled g c = settles_some c.args.limit (g.S.Store.tree c.args.store.now) _ _ _ _ c.in-Symlink.is c.some-in-Symlink.ensures.ok c.some-in-Symlink.ensures.err c.plan_symlink.ensures.settled

pub returns-in-Link-clause-settled : goal.returns-in-Link-clause-settled
returns-in-Link-clause-settled g c = settles_some c.args.limit (g.S.Store.tree c.args.store.now) _ _ _ _ c.in-Link.is c.some-in-Link.ensures.ok c.some-in-Link.ensures.err c.plan_link.ensures.settled

pub returns-in-Unlink-clause-settled : goal.returns-in-Unlink-clause-settled
returns-in-Unlink-clause-settled g c = settles_some c.args.limit (g.S.Store.tree c.args.store.now) _ _ _ _ c.in-Unlink.is c.some-in-Unlink.ensures.ok c.some-in-Unlink.ensures.err c.plan_unlink.ensures.settled

pub returns-in-Rmdir-clause-settled : goal.returns-in-Rmdir-clause-settled
returns-in-Rmdir-clause-settled g c = settles_some c.args.limit (g.S.Store.tree c.args.store.now) _ _ _ _ c.in-Rmdir.is c.some-in-Rmdir.ensures.ok c.some-in-Rmdir.ensures.err c.plan_rmdir.ensures.settled

pub returns-in-Mkdir-clause-taken : goal.returns-in-Mkdir-clause-taken
returns-in-Mkdir-clause-taken g c = takes_some (g.S.Store.tree c.args.store.now) _ _ _ _ c.in-Mkdir.is c.some.ensures.ok c.some.ensures.err c.plan_make.ensures.taken

pub returns-in-Create-clause-taken : goal.returns-in-Create-clause-taken
returns-in-Create-clause-taken g c = takes_some (g.S.Store.tree c.args.store.now) _ _ _ _ c.in-Create.is c.some-in-Create.ensures.ok c.some-in-Create.ensures.err c.plan_make-in-Create.ensures.taken

pub returns-in-Symlink-clause-taken : goal.returns-in-Symlink-clause-taken
returns-in-Symlink-clause-taken g c = takes_some (g.S.Store.tree c.args.store.now) _ _ _ _ c.in-Symlink.is c.some-in-Symlink.ensures.ok c.some-in-Symlink.ensures.err c.plan_symlink.ensures.taken

pub returns-in-Link-clause-taken : goal.returns-in-Link-clause-taken
returns-in-Link-clause-taken g c = takes_some (g.S.Store.tree c.args.store.now) _ _ _ _ c.in-Link.is c.some-in-Link.ensures.ok c.some-in-Link.ensures.err c.plan_link.ensures.taken

pub returns-in-Unlink-clause-taken : goal.returns-in-Unlink-clause-taken
returns-in-Unlink-clause-taken g c = takes_some (g.S.Store.tree c.args.store.now) _ _ _ _ c.in-Unlink.is c.some-in-Unlink.ensures.ok c.some-in-Unlink.ensures.err c.plan_unlink.ensures.taken

pub returns-in-Rmdir-clause-taken : goal.returns-in-Rmdir-clause-taken
returns-in-Rmdir-clause-taken g c = takes_some (g.S.Store.tree c.args.store.now) _ _ _ _ c.in-Rmdir.is c.some-in-Rmdir.ensures.ok c.some-in-Rmdir.ensures.err c.plan_rmdir.ensures.taken
