use Rattle.dc_store.proofs.Dropped.{after_drop, if_some_at}
use Rattle.dc_store.proofs.Stores.{shows_now, sound_as}
use Rattle.dc_store.proofs.map_store.MapStoreStore.drop_entry.Goals as goal

pub invariant_of-self : goal.invariant_of-self
invariant_of-self c =
    let (n, leads, now) = after_drop c.trees_keep_their_laws.ensures _ _ (shows_now c.self.invariant c.self.view_is) c.requires c.remove-lost.ensures.rest c.remove-lost.ensures.before c.drop_unnamed.ensures.rest c.drop_unnamed.ensures.kept in
    sound_as now

pub returns : goal.returns
returns c =
    let (n, leads, now) = after_drop c.trees_keep_their_laws.ensures _ _ (shows_now c.self.invariant c.self.view_is) c.requires c.remove-lost.ensures.rest c.remove-lost.ensures.before c.drop_unnamed.ensures.rest c.drop_unnamed.ensures.kept in
    if_some_at _ leads now.shows
