use Rattle.std.proofs.Common.{◌≡◌, ◌++◌, drop}
use Rattle.dc_check.specs.Judges.{judge_of, all_numbered, all_phased, all_spans}
use Rattle.dc_check.specs.Judging.{opening, Passes, spans_in}
use Rattle.dc_check.proofs.checking.judge_all.Given as goal

-- what is left passes exactly if all of it passes, and its calls take effect behind those that are marked
abbrev pub invariant-loop-numbered : goal.invariant-loop-numbered
invariant-loop-numbered l = record {
  on : Passes (all_numbered (drop l.numbered-index l.sorted)) (judge_of l.judge) → Passes (all_numbered l.sorted) (opening l.max_inodes);
  back : Passes (all_numbered l.sorted) (opening l.max_inodes) → Passes (all_numbered (drop l.numbered-index l.sorted)) (judge_of l.judge);
  marks : all_spans l.marks.items ++ spans_in (judge_of l.judge) (all_phased (drop l.numbered-index l.sorted)) ≡ spans_in (opening l.max_inodes) (all_phased l.sorted);
}
