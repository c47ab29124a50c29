use Rattle.std.proofs.Common.{map, length}
use Rattle.dc_plain.specs.KeysShown.{key_shown}
use Rattle.dc_rows.specs.Changes.{StageAt}
use Rattle.dc_rows.specs.Refills.{FirstKeys, Refilled}
use Rattle.dc_rows.proofs.Turned.{Turned}
use Rattle.dc_rows.proofs.shutting.refill_keys.Given as goal

abbrev pub invariant-loop-i : goal.invariant-loop-i
invariant-loop-i l = record {
  turned : Turned (Refilled l.fn.kept.store) (FirstKeys l.i l.keys) l.fn.holder l.fn.kept l.holder l.kept;
  stage : StageAt l.holder.pass.now l.kept l.i (length l.keys) (map key_shown l.keys);
}
