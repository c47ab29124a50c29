use Rattle.std.proofs.Common.{refl, sym, subst}
use Rattle.dc_ops.specs.Plans.{Declines}
use Rattle.dc_ops.specs.Same.{same_tells}
use Rattle.dc_plain.specs.Requests.{Request, answer_of}
use Rattle.dc_plain.specs.Trees.{Tree}
use Rattle.dc_rows.specs.Guards.{kept_by}
use Rattle.dc_cache.proofs.under_lock.look_up.Goals as goal

pub answer-requires-clause-declines : goal.answer-requires-clause-declines
answer-requires-clause-declines g c limit =
    let tree : Tree = (kept_by c.look_by-reply.new.finder.guard).store in
    subst (λ (call : Request). Declines limit tree call (answer_of c.in-Ok.reply)) (sym c.call-call.ensures) (c.in-Ok.ensures.reply limit tree (same_tells tree tree refl))
