use Rattle.dc_store.proofs.Made.{made_new, taken_back}
use Rattle.dc_store.proofs.Stores.{shows_now, sound_as}
use Rattle.dc_store.proofs.map_store.MapStore.make.Goals as goal

pub invariant_of-self-in_default : goal.invariant_of-self-in_default
invariant_of-self-in_default c = sound_as (taken_back c.trees_keep_their_laws.ensures (shows_now c.self.invariant c.self.view_is) _ c.in_default.ensures.err c.in_ok-insert.ensures.entries c.remove.ensures.entries)

pub returns-in_default-clause-err : goal.returns-in_default-clause-err
returns-in_default-clause-err c =
    let back = taken_back c.trees_keep_their_laws.ensures (shows_now c.self.invariant c.self.view_is) _ c.in_default.ensures.err c.in_ok-insert.ensures.entries c.remove.ensures.entries in
    back.shows

pub invariant_of-self-2 : goal.invariant_of-self-2
invariant_of-self-2 c =
    sound_as (made_new c.trees_keep_their_laws.ensures (shows_now c.self.invariant c.self.view_is) _ _ _ (record { held = c.requires.directory; free = c.requires.free; named = c.args.name.valid }) c.requires.room c.requires.fits c.in-Ok.ensures.ok c.in_ok-insert.ensures.entries)

pub returns-clause-ok : goal.returns-clause-ok
returns-clause-ok c =
    let now = made_new c.trees_keep_their_laws.ensures (shows_now c.self.invariant c.self.view_is) _ _ _ (record { held = c.requires.directory; free = c.requires.free; named = c.args.name.valid }) c.requires.room c.requires.fits c.in-Ok.ensures.ok c.in_ok-insert.ensures.entries in
    now.shows
