use Rattle.std.proofs.Common.{◌≡◌, sym, ap, ◌∙◌}
use Rattle.dc_index.specs.Slots.{has_key}
use Rattle.dc_index.specs.Slots.Slot.{Retired}
use Rattle.dc_shrink.specs.Listings.{is_used}
use Rattle.dc_table_tests.proofs.Agreeing.{slot_set}
use Rattle.dc_table_tests.proofs.index.rows_of.Goals as goal

pub choose-requires : goal.choose-requires
choose-requires c row at = ap has_key (c.in_ok-index.ensures.free row) ∙ sym (c.in_ok-shrinker.ensures.unused row)

pub choose-requires-2 : goal.choose-requires-2
choose-requires-2 c row at = let none = c.in_ok-shrinker.ensures.unused in
    rw c.retire.ensures (slot_set (λ s r. has_key s ≡ is_used c.in_ok-shrinker.shrinker r) c.in_ok-index.index c.in-Some.first Retired c.in-Some.ensures.within (sym (none c.in-Some.first)) (λ r ne. ap has_key (c.in_ok-index.ensures.free r) ∙ sym (none r)) row)
