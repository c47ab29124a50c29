use Rattle.std.proofs.Common.{subst, refl}
use Rattle.std.proofs.lemmas.List.{map-set}
use Rattle.dc_index.specs.Slots.{IsIndex}
use Rattle.dc_index.specs.Slots.Slot.{Retired}
use Rattle.dc_index.proofs.Kept.{kept_empty}
use Rattle.dc_index.proofs.index.Index.retire.Goals as goal

pub invariant_of-self : goal.invariant_of-self
invariant_of-self c = rw (map-set, c.self.view_is) (kept_empty (subst IsIndex c.self.view_is c.self.invariant) c.args.row c.requires Retired refl)

pub returns : goal.returns
returns c = rw (map-set, c.self.view_is) refl
