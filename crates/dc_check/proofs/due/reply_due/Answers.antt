use Rattle.std.proofs.Common.{◌∙◌, IfOk, IfSome, ◌≡◌, List, ap, subst}
use Rattle.dc_plain.specs.OwnCalls.{own_request}
use Rattle.dc_plain.specs.Requests.{answer_of}
use Rattle.dc_plain.specs.Runs.{reply_of}
use Rattle.dc_check.specs.declared.stamp.Numbered as rust_numbered
use Rattle.dc_check.specs.Judges.{all_numbered}
use Rattle.dc_check.specs.Phases.{tree_at}
use Rattle.dc_check.specs.Stamps.{stamps_of}
use Rattle.dc_check.proofs.InOrder.{tree_same}
use Rattle.dc_check.proofs.due.reply_due.Goals as goal

pub returns : goal.returns
returns c =
    let limit = c.args.max_inodes in
    let stamp = c.args.stamp.now in
    let same = ap (λ (ns : List rust_numbered.Numbered). tree_at limit (all_numbered ns) stamp.at) c.deref.ensures.value ∙ tree_same limit stamp.at (stamps_of c.args.stamps.now) _ c.in_ok-sorted.ensures.by_point in
    subst (λ t. IfOk c.due_among.result (λ due. IfSome due (λ reply. answer_of reply ≡ reply_of limit t (own_request stamp.call)))) same c.due_among.ensures
