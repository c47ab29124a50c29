use Rattle.dc_store.proofs.Keeps.{keeps_now, tied_as, room, linked_in}
use Rattle.dc_store.proofs.slab_store.SlabStore.link.Goals as goal

pub count_up-requires : goal.count_up-requires
count_up-requires c = room (keeps_now c.self.invariant c.self.view_is) c.trees_keep_their_laws.ensures c.args.dir c.args.name.bytes.now (record { held = c.requires.directory; free = c.requires.free; named = c.args.name.valid }) c.args.number c.requires.can c.in_ok-enter.ensures.ok

pub invariant_of-self-2 : goal.invariant_of-self-2
invariant_of-self-2 c = tied_as (linked_in (keeps_now c.self.invariant c.self.view_is) c.trees_keep_their_laws.ensures c.args.dir c.args.name.bytes.now (record { held = c.requires.directory; free = c.requires.free; named = c.args.name.valid }) c.args.number c.requires.can c.in_ok-enter.ensures.ok c.count_up.ensures)

pub returns-clause-ok : goal.returns-clause-ok
returns-clause-ok c =
    let now = linked_in (keeps_now c.self.invariant c.self.view_is) c.trees_keep_their_laws.ensures c.args.dir c.args.name.bytes.now (record { held = c.requires.directory; free = c.requires.free; named = c.args.name.valid }) c.args.number c.requires.can c.in_ok-enter.ensures.ok c.count_up.ensures in
    now.shows.shows
