use Rattle.std.proofs.Common.{drop}
use Rattle.dc_check.specs.Judges.{all_numbered, judge_of}
use Rattle.dc_check.proofs.Reached.{Stands}
use Rattle.dc_check.proofs.due.due_among.Given as goal

-- the judge took all but those that are left
abbrev pub invariant-loop-numbered : goal.invariant-loop-numbered
invariant-loop-numbered l = Stands l.max_inodes (all_numbered l.sorted) (all_numbered (drop l.numbered-index l.sorted)) (judge_of l.judge)
