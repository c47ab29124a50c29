use Rattle.std.proofs.Common.{refl, subst}
use Rattle.dc_check.specs.Stamps.{stamps_of}
use Rattle.dc_check.specs.Verdicts.{IsJudged}
use Rattle.dc_check.proofs.Judged.{behind_apart}
use Rattle.dc_check.proofs.checking.check_phases.Goals as goal

pub returns-in-None : goal.returns-in-None
returns-in-None c =
    let judged = subst (IsJudged c.args.max_inodes c.args.phases.now (stamps_of c.args.stamps.now)) c.in-Legal.is c.in_ok-marks.ensures in
    let kept = c.in_ok-first_behind-in-Legal.ensures.0 c.in-None.is in
    (λ e. (judged.is, judged.phased.0 kept), λ both. refl)

pub returns-in-Some : goal.returns-in-Some
returns-in-Some c =
    let judged = subst (IsJudged c.args.max_inodes c.args.phases.now (stamps_of c.args.stamps.now)) c.in-Legal.is c.in_ok-marks.ensures in
    (λ e. cc, λ both. absurd (behind_apart _ _ _ c.in-Legal.marks.items _ _ judged c.in_ok-first_behind-in-Legal.ensures c.in-Some.is both.1))
