use Rattle.dc_store.proofs.Keeps.{keeps_now, tied_as, no_inode}
use Rattle.dc_store.proofs.SlabSteps.{made_empty, taken_out}
use Rattle.dc_store.proofs.slab_store.SlabStore.make.Goals as goal

pub insert-requires : goal.insert-requires
insert-requires c = no_inode (keeps_now c.self.invariant c.self.view_is) c.trees_keep_their_laws.ensures

pub invariant_of-self-in_default : goal.invariant_of-self-in_default
invariant_of-self-in_default c = tied_as (taken_out (keeps_now c.self.invariant c.self.view_is) c.trees_keep_their_laws.ensures _ c.in_ok-insert.ensures.ok c.in_default.ensures.err c.remove.ensures)

pub returns-in_default-clause-err : goal.returns-in_default-clause-err
returns-in_default-clause-err c =
    let back = taken_out (keeps_now c.self.invariant c.self.view_is) c.trees_keep_their_laws.ensures _ c.in_ok-insert.ensures.ok c.in_default.ensures.err c.remove.ensures in back.shows.shows

pub invariant_of-self-2 : goal.invariant_of-self-2
invariant_of-self-2 c =
    tied_as (made_empty (keeps_now c.self.invariant c.self.view_is) c.trees_keep_their_laws.ensures c.args.dir c.args.name.bytes.now (record { held = c.requires.directory; free = c.requires.free; named = c.args.name.valid }) c.args.node c.requires.room c.requires.fits c.new.ensures c.in_ok-insert.ensures.ok c.in-Ok.ensures.ok)

pub returns-clause-ok : goal.returns-clause-ok
returns-clause-ok c =
    let now = made_empty (keeps_now c.self.invariant c.self.view_is) c.trees_keep_their_laws.ensures c.args.dir c.args.name.bytes.now (record { held = c.requires.directory; free = c.requires.free; named = c.args.name.valid }) c.args.node c.requires.room c.requires.fits c.new.ensures c.in_ok-insert.ensures.ok c.in-Ok.ensures.ok in now.shows.shows
