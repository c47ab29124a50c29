use Rattle.dc_store.proofs.Linked.{linked}
use Rattle.dc_store.proofs.Stores.{shows_now, sound_as}
use Rattle.dc_store.proofs.map_store.MapStore.link.Goals as goal

pub invariant_of-self-2 : goal.invariant_of-self-2
invariant_of-self-2 c = sound_as (linked c.trees_keep_their_laws.ensures _ _ (shows_now c.self.invariant c.self.view_is) (record { held = c.requires.directory; free = c.requires.free; named = c.args.name.valid }) c.requires.can c.in_ok-insert.ensures.ok)

pub returns-clause-ok : goal.returns-clause-ok
returns-clause-ok c =
    let now = linked c.trees_keep_their_laws.ensures _ _ (shows_now c.self.invariant c.self.view_is) (record { held = c.requires.directory; free = c.requires.free; named = c.args.name.valid }) c.requires.can c.in_ok-insert.ensures.ok in
    now.shows
