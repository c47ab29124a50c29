-- What the judge of the program stands for.
use Rattle.std.specs.Prelude.{ℕ, ◌+◌, List, map, option_map, if◌then◌else◌}
use Rattle.dc_lang.specs.Spans.{Span}
use Rattle.dc_plain.specs.Legal.{Stamp}
use Rattle.dc_check.specs.declared.fault.Fault as rust_fault
use Rattle.dc_check.specs.declared.fault.Fault.TheVariants as faults
use Rattle.dc_check.specs.declared.judge.Judge as rust_judge
use Rattle.dc_check.specs.declared.stamp.Numbered as rust_numbered
use Rattle.dc_check.specs.Stamps.{stamp_of}
use Rattle.dc_check.specs.declared.stamp.Mark as rust_mark
use Rattle.dc_check.specs.Judging.{IsByPoint, Judge}
use Rattle.dc_check.specs.Phases.{Phased, SameItems, with_phases}

-- a stamp without its line
abbrev pub numbered_of : rust_numbered.Numbered → Stamp
numbered_of numbered = stamp_of numbered.stamp.now

abbrev pub all_numbered : List rust_numbered.Numbered → List Stamp
all_numbered numbered = map numbered_of numbered

abbrev pub judge_of : rust_judge.Judge → Judge
judge_of judge = record { limit = judge.tree.limit; tree = judge.tree.tree; clock = judge.clock; change = option_map numbered_of judge.change }

-- a fault of a stamp
abbrev pub Blames : rust_fault.Fault → Type 0
Blames (faults.Reply line) = Unit {0}
Blames (faults.Order line) = Unit {0}
Blames (faults.Gap point) = Unit {0}
Blames faults.NoMemory = ⊥

-- a stamp with its phase
abbrev pub phased_of : rust_numbered.Numbered → Phased
phased_of numbered = record { phase = numbered.phase; stamp = numbered_of numbered }

abbrev pub all_phased : List rust_numbered.Numbered → List Phased
all_phased numbered = map phased_of numbered

-- these are the stamps by their points, each with the phase of its call
pub record AreByPoint (phases : List ℕ) (stamps : List Stamp) (sorted : List rust_numbered.Numbered) : Type 0 where
  pub by_point : IsByPoint stamps (all_numbered sorted)
  pub phased : SameItems (with_phases phases stamps) (all_phased sorted)

-- the least point of a call that comes after a marked one
abbrev pub end_of : rust_mark.Mark → ℕ
end_of mark = if mark.altered then mark.at + 1 else mark.at

abbrev pub span_of : rust_mark.Mark → Span
span_of mark = record { phase = mark.phase; at = mark.at; end = end_of mark }

abbrev pub all_spans : List rust_mark.Mark → List Span
all_spans marks = map span_of marks
