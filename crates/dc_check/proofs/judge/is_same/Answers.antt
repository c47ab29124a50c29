use Rattle.std.proofs.Common.{◌∙◌, sym}
use Rattle.dc_check.proofs.Replies.{same_reply}
use Rattle.dc_check.proofs.judge.is_same.Goals as goal

pub returns : goal.returns
returns c =
    let same = same_reply c.args.reply.now c.args.other.now in
    (λ yes. same.0 (sym c.eq.ensures ∙ yes), λ e. c.eq.ensures ∙ same.1 e)
