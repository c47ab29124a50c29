use Rattle.dc_store.proofs.Dropped.{if_some_at}
use Rattle.dc_store.proofs.Keeps.{keeps_now, tied_as}
use Rattle.dc_store.proofs.KeepsMoved.{drop_can_lose, dropped_in}
use Rattle.dc_store.proofs.slab_store.SlabStoreStore.drop_entry.Goals as goal

pub lose-requires : goal.lose-requires
lose-requires c = rw (c.leave-lost.ensures.rest, c.leave-lost.ensures.before) (drop_can_lose (keeps_now c.self.invariant c.self.view_is) c.trees_keep_their_laws.ensures c.args.dir c.args.name.bytes.now c.requires)

pub invariant_of-self : goal.invariant_of-self
invariant_of-self c =
    let (n, leads, now) = dropped_in (keeps_now c.self.invariant c.self.view_is) c.trees_keep_their_laws.ensures c.args.dir c.args.name.bytes.now c.requires in
    rw (c.lose.ensures, c.leave-lost.ensures.rest, c.leave-lost.ensures.before) (tied_as now)

pub returns : goal.returns
returns c =
    let (n, leads, now) = dropped_in (keeps_now c.self.invariant c.self.view_is) c.trees_keep_their_laws.ensures c.args.dir c.args.name.bytes.now c.requires in
    if_some_at _ leads (rw (c.lose.ensures, c.leave-lost.ensures.rest, c.leave-lost.ensures.before) now.shows.shows)
