use Rattle.std.proofs.Common.{◌≡◌, length, map}
use Rattle.dc_names.specs.declared.limits.TheConstants.{MOST_TOUCHED}
use Rattle.dc_plain.specs.KeysShown.{key_shown}
use Rattle.dc_rows.specs.Changes.{StageAt}
use Rattle.dc_rows.specs.OddRows.{AreFound}
use Rattle.dc_rows.specs.Refills.{FirstKeys, Shut}
use Rattle.dc_rows.proofs.Turned.{Turned}
use Rattle.dc_rows.proofs.shutting.shut_keys.Given as goal

abbrev pub invariant-loop-i : goal.invariant-loop-i
invariant-loop-i l = record {
  turned : Turned Shut (FirstKeys l.i l.keys) l.fn.holder l.fn.kept l.holder l.kept;
  stage : StageAt l.holder.pass.now l.kept 0 l.i (map key_shown l.keys);
  found : AreFound l.kept.index (map key_shown l.keys) l.i l.rows;
  size : length l.rows ≡ MOST_TOUCHED;
}
