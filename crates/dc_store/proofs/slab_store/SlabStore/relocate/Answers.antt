use Rattle.dc_store.proofs.Keeps.{keeps_now, tied_as}
use Rattle.dc_store.proofs.KeepsMoved.{can_lose_replaced, after_steps}
use Rattle.dc_store.proofs.slab_store.SlabStore.relocate.Goals as goal

pub lose-requires : goal.lose-requires
lose-requires c =
    can_lose_replaced (keeps_now c.self.invariant c.self.view_is) c.trees_keep_their_laws.ensures c.args.old.dir c.args.old.name.bytes.now c.args.new.dir c.args.new.name.bytes.now c.args.number c.args.new.name.valid c.requires.leads c.requires.stands
    c.in_ok-replaced.ensures.ok c.in_ok-replaced.ensures.before c.leave.ensures.rest

pub invariant_of-self-2 : goal.invariant_of-self-2
invariant_of-self-2 c =
    tied_as (after_steps (keeps_now c.self.invariant c.self.view_is) c.trees_keep_their_laws.ensures c.args.old.dir c.args.old.name.bytes.now c.args.new.dir c.args.new.name.bytes.now c.args.number c.args.new.name.valid c.requires.leads c.requires.stands
    c.in_ok-replaced.ensures.ok c.in_ok-replaced.ensures.before c.leave.ensures.rest c.lose.ensures c.set_parent.ensures)

pub returns-clause-ok : goal.returns-clause-ok
returns-clause-ok c =
    let now = after_steps (keeps_now c.self.invariant c.self.view_is) c.trees_keep_their_laws.ensures c.args.old.dir c.args.old.name.bytes.now c.args.new.dir c.args.new.name.bytes.now c.args.number c.args.new.name.valid c.requires.leads c.requires.stands
    c.in_ok-replaced.ensures.ok c.in_ok-replaced.ensures.before c.leave.ensures.rest c.lose.ensures c.set_parent.ensures in
    now.shows.shows
