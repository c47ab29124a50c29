use Rattle.std.proofs.Common.{drop, unwrap_or}
use Rattle.std.specs.Ordering.{nat_cmp}
use Rattle.std.specs.BTreeMap.{get}
use Rattle.dc_check.specs.Stamps.{stamps_of}
use Rattle.dc_check.specs.Judging.{RisesByActor}
use Rattle.dc_check.proofs.Floors.{RiseFrom}
use Rattle.dc_check.proofs.order.first_falling.Given as goal

-- the points of what is left rise from those met exactly if all of them rise
abbrev pub invariant-loop-i : goal.invariant-loop-i
invariant-loop-i l = record {
  on : RiseFrom (λ n. unwrap_or (get nat_cmp l.latest n) 0) (stamps_of (drop l.i l.stamps)) → RisesByActor (stamps_of l.stamps);
  back : RisesByActor (stamps_of l.stamps) → RiseFrom (λ n. unwrap_or (get nat_cmp l.latest n) 0) (stamps_of (drop l.i l.stamps));
}
