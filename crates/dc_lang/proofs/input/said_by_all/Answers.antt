use Rattle.std.proofs.Common.{map, arith, rules}
use Rattle.std.proofs.lemmas.List.{map_push}
use Rattle.dc_lang.specs.Commands.{Means, meaning_of}
use Rattle.dc_lang.proofs.Readings.{next_read, next_refused}
use Rattle.dc_lang.proofs.input.said_by_all.Goals as goal

pub returns-in_err-read_numbered-clause-err : goal.returns-in_err-read_numbered-clause-err
returns-in_err-read_numbered-clause-err c =
    let fault = next_refused Means c.args.lines.now c.loop-at.at _ (map meaning_of c.loop-at.said.items) c.in_err-read_numbered.field-0.0 (omega arith) c.loop-at.invariant c.in_err-read_numbered.ensures.err in
    search rules

pub loop-at-preserved : goal.loop-at-preserved
loop-at-preserved c =
    let next = next_read Means c.args.lines.now c.loop-at.at _ (map meaning_of c.loop-at.said.items) (meaning_of c.in_ok-read_numbered.field-0) (omega arith) c.loop-at.invariant c.in_ok-read_numbered.ensures.ok in
    rw (c.in_ok-push.ensures.items, map_push) next
