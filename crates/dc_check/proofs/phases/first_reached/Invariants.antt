use Rattle.std.proofs.Common.{◌≡◌, None, drop}
use Rattle.dc_check.specs.Judges.{all_spans}
use Rattle.dc_check.proofs.PhaseOrder.{Keeps}
use Rattle.dc_check.proofs.phases.first_reached.Given as goal

-- no line was found, and those left are behind what came before, exactly if all of them are
abbrev pub invariant-loop-mark : goal.invariant-loop-mark
invariant-loop-mark l = record {
  on : l.first ≡ None → Keeps l.reach.phase l.reach.earlier l.reach.all (all_spans (drop l.mark-index l.marks)) → Keeps 0 0 0 (all_spans l.marks);
  back : Keeps 0 0 0 (all_spans l.marks) → (l.first ≡ None) × Keeps l.reach.phase l.reach.earlier l.reach.all (all_spans (drop l.mark-index l.marks));
}
