use Rattle.std.proofs.Common.{sym, subst}
use Rattle.dc_check.specs.Judges.{AreByPoint}
use Rattle.dc_check.specs.Stamps.{stamps_of}
use Rattle.dc_check.proofs.Exact.{passing_from_legal}
use Rattle.dc_check.proofs.Judged.{falling_illegal, legal_as}
use Rattle.dc_check.proofs.checking.judge_stamps.Goals as goal

pub returns-in-Some : goal.returns-in-Some
returns-in-Some c = (λ e. cc, falling_illegal c.args.max_inodes _ _ _ c.in_ok-line.ensures c.in-Some.is)

pub returns-in-Ok : goal.returns-in-Ok
returns-in-Ok c =
    let by = subst (AreByPoint c.args.phases.now (stamps_of c.args.stamps.now)) (sym c.deref.ensures.value) c.in_ok-sorted.ensures in
    legal_as c.same_tree_tells_whether_trees_are_one.ensures c.args.max_inodes _ _ _ _ (c.in_ok-line.ensures.0 c.in_default.is) by c.in-Ok.ensures.ok c.in-Ok.ensures.marks

pub returns : goal.returns
returns c =
    let by = subst (AreByPoint c.args.phases.now (stamps_of c.args.stamps.now)) (sym c.deref.ensures.value) c.in_ok-sorted.ensures in
    let passing = passing_from_legal c.same_tree_tells_whether_trees_are_one.ensures c.args.max_inodes _ _ by.by_point in
    (c.in_ok-verdict_of-in-Err.ensures.other, λ legal. c.in-Err.ensures.err c.in_ok-verdict_of-in-Err.ensures.blames (passing legal))
