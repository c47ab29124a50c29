use Rattle.std.proofs.Common.{sym, subst, refl, length, ◌<◌}
use Rattle.std.proofs.lemmas.List.{map-set, length-map}
use Rattle.dc_index.specs.Slots.{IsIndex, cleared}
use Rattle.dc_index.specs.OwnKeys.{slot_shown}
use Rattle.dc_index.proofs.Kept.{kept_empty, cleared_empty, slot_seen}
use Rattle.dc_index.proofs.index.Index.clear.Goals as goal

pub invariant_of-self : goal.invariant_of-self
invariant_of-self c = let is = subst IsIndex c.self.view_is c.self.invariant in
    rw (map-set, c.clear.ensures, c.self.view_is) (kept_empty is c.args.row c.requires (cleared (slot_shown c.index_mut-slot.result.now)) (cleared_empty (slot_shown c.index_mut-slot.result.now)))

pub returns : goal.returns
returns c = let below = subst (λ s. c.args.row < length s) (sym c.self.view_is) c.requires in
    let seen = slot_seen c.self.inside.slots.items c.args.row c.index_mut-slot.result.now (rw length-map at below) c.index_mut-slot.ensures.value in
    rw (map-set, c.clear.ensures, seen, c.self.view_is) refl
