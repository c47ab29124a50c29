use Rattle.std.proofs.Common.{rules, sym, subst}
use Rattle.dc_ops.specs.Plans.{Declines}
use Rattle.dc_plain.specs.Requests.{Request, answer_of}
use Rattle.dc_plain.specs.Trees.{Tree}
use Rattle.dc_rows.specs.Guards.{kept_by, seat_of}
use Rattle.dc_table.specs.Changes.{Recorded}
use Rattle.dc_table.specs.Passes.{view}
use Rattle.dc_walk.specs.Looks.{look_shown}
use Rattle.dc_cache.proofs.along.look_held.Goals as goal

pub answer-back-requires-clause-declines : goal.answer-back-requires-clause-declines
answer-back-requires-clause-declines g c limit =
    let tree : Tree = (kept_by c.args.guard).store in
    let is = c.store.ensures in
    subst (λ (call : Request). Declines limit tree call (answer_of c.in-Ok.reply)) (sym c.call-call.ensures) (subst (λ (t : Tree). Declines limit t (look_shown c.args.look) (answer_of c.in-Ok.reply)) is (c.in-Ok.ensures.reply limit))

pub returns-in-Ok-clause-told : goal.returns-in-Ok-clause-told
returns-in-Ok-clause-told g c = let told = c.answer-back.result.1 in
    record { recorded = subst (λ (call : Request). Recorded (view (seat_of c.args.guard)) (view c.answer-back.result.0.now) call (answer_of told.reply) told.at) c.call-call.ensures c.answer-back.ensures.recorded; has = search rules }
