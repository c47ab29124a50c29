use Rattle.std.proofs.Common.{◌≡◌, ◌+◌, ◌-◌, ◌*◌, ap, arith, map, take, drop}
use Rattle.std.proofs.lemmas.List.{take-map, drop-map}
use Rattle.dc_index.specs.OwnKeys.{slot_shown}
use Rattle.dc_index.proofs.index.Index.slots_in.Goals as goal

pub returns-clause-slots : goal.returns-clause-slots
returns-clause-slots c = let four : 4 * c.args.bucket + 4 - 4 * c.args.bucket ≡ 4 = omega arith in
    rw (four, ← c.self.view_is, drop-map, take-map) (ap (λ s. map slot_shown (take 4 (drop (4 * c.args.bucket) s))) c.as_slice-slots.ensures.value)
