use Rattle.dc_store.proofs.Moves.{after_move}
use Rattle.dc_store.proofs.Stores.{shows_now, sound_as}
use Rattle.dc_store.proofs.map_store.MapStore.relocate.Goals as goal

pub invariant_of-self-2 : goal.invariant_of-self-2
invariant_of-self-2 c =
    sound_as (after_move c.trees_keep_their_laws.ensures _ _ _ _ _ (shows_now c.self.invariant c.self.view_is) c.args.new.name.valid c.requires.leads c.requires.stands c.in_ok-replaced.ensures.ok c.in_ok-replaced.ensures.before
    c.remove.ensures.rest c.drop_unnamed.ensures.rest c.drop_unnamed.ensures.kept c.set_parent.ensures.shown c.set_parent.ensures.set)

pub returns-clause-ok : goal.returns-clause-ok
returns-clause-ok c =
    let now = after_move c.trees_keep_their_laws.ensures _ _ _ _ _ (shows_now c.self.invariant c.self.view_is) c.args.new.name.valid c.requires.leads c.requires.stands c.in_ok-replaced.ensures.ok c.in_ok-replaced.ensures.before
    c.remove.ensures.rest c.drop_unnamed.ensures.rest c.drop_unnamed.ensures.kept c.set_parent.ensures.shown c.set_parent.ensures.set in
    now.shows
