-- How far calls went that stand by their phases.
use Rattle.std.specs.Prelude.{List, max, nat_lt, if◌then◌else◌}
use Rattle.std.specs.List.Sorted.{IsNonDecreasingBy}
use Rattle.dc_check.specs.declared.phases.Reach as rust_reach
use Rattle.dc_check.specs.declared.stamp.Mark as rust_mark
use Rattle.dc_check.specs.Judges.{end_of}

-- the phases of the calls don't fall
abbrev pub IsByPhase : List rust_mark.Mark → Type 0
IsByPhase marks = IsNonDecreasingBy (λ (mark : rust_mark.Mark). mark.phase) marks

-- how far they went with one more
abbrev pub with_mark : rust_reach.Reach → rust_mark.Mark → rust_reach.Reach
with_mark reach mark = record {
  phase = mark.phase;
  earlier = if nat_lt reach.phase mark.phase then reach.all else reach.earlier;
  all = max reach.all (end_of mark);
}
