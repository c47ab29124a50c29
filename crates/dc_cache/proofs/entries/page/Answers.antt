use Rattle.std.proofs.Common.{◌≡◌, rules, ap, sym, subst, ◌∙◌}
use Rattle.dc_events.specs.Standing.{tree_of}
use Rattle.dc_ops.specs.Pages.{page_by, IsFound}
use Rattle.dc_ops.specs.Plans.{Declines}
use Rattle.dc_plain.specs.Requests.{answer_of}
use Rattle.dc_plain.specs.Runs.{reply_of}
use Rattle.dc_plain.specs.Trees.{Tree}
use Rattle.dc_plain.specs.declared.call.Reply.{Reply}
use Rattle.dc_rows.specs.Guards.{rows_of, seat_of}
use Rattle.dc_store.specs.Pages.{page_told}
use Rattle.dc_table.specs.Passes.{share}
use Rattle.dc_cache.specs.Pages.{asked_for, look_of}
use Rattle.dc_cache.proofs.entries.page.Goals as goal

pub answer-back-requires-clause-declines : goal.answer-back-requires-clause-declines
answer-back-requires-clause-declines g c limit =
    subst (λ (t : Tree). Declines limit t (look_of (asked_for c.args.asked)) (answer_of c.seek-reply.result)) c.store-store.ensures (c.seek-reply.ensures limit)

pub returns-in-Ok-clause-told : goal.returns-in-Ok-clause-told
returns-in-Ok-clause-told g c =
    let asked = asked_for c.args.asked in
    let told = c.in-Ok.ensures.ok ∙ ap (λ (t : Tree). page_by t asked.after asked.most (answer_of c.seek-reply.result)) (c.store-store.ensures ∙ c.args.guard.rests.tree) in
    record {
      recorded = c.answer-back.ensures.recorded;
      page = told ∙ ap (λ (r : Reply). page_by (tree_of (share (seat_of c.args.guard)).limit (rows_of c.args.guard).history) asked.after asked.most (answer_of r)) (sym c.answer-back.ensures.same);
    }

pub returns-clause-told : goal.returns-clause-told
returns-clause-told g c =
    let limit = (share (seat_of c.args.guard)).limit in
    let call = look_of (asked_for c.args.asked) in
    let same : answer_of c.seek-reply.result ≡ reply_of limit (tree_of limit (rows_of c.args.guard).history) call =
    sym (ap (λ p. p.0) (c.seek-reply.ensures limit).operation) ∙ ap (λ (t : Tree). reply_of limit t call) (c.store-store.ensures ∙ c.args.guard.rests.tree) in
    record { nothing = search rules; seen = search rules; found = subst IsFound same c.in-Err.ensures.err }
