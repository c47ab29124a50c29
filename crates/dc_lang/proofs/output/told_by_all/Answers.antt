use Rattle.std.proofs.Common.{map, arith, rules}
use Rattle.std.proofs.lemmas.List.{map_push}
use Rattle.dc_lang.specs.Responses.{Tells, response_of}
use Rattle.dc_lang.proofs.Readings.{next_read, next_refused}
use Rattle.dc_lang.proofs.output.told_by_all.Goals as goal

pub returns-in_err-reply_numbered-clause-err : goal.returns-in_err-reply_numbered-clause-err
returns-in_err-reply_numbered-clause-err c =
    let fault = next_refused Tells c.args.lines.now c.loop-at.at _ (map response_of c.loop-at.told.items) c.in_err-reply_numbered.field-0.0 (omega arith) c.loop-at.invariant c.in_err-reply_numbered.ensures.err in
    search rules

pub loop-at-preserved : goal.loop-at-preserved
loop-at-preserved c =
    let next = next_read Tells c.args.lines.now c.loop-at.at _ (map response_of c.loop-at.told.items) (response_of c.in_ok-reply_numbered.field-0) (omega arith) c.loop-at.invariant c.in_ok-reply_numbered.ensures.ok in
    rw (c.in_ok-push.ensures.items, map_push) next
