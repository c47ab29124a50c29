use Rattle.std.proofs.Common.{arith, rules}
use Rattle.dc_serve.specs.Bytes.{WritesFront}
use Rattle.dc_serve.proofs.BytesLemmas.{texts_fail}
use Rattle.dc_serve.proofs.bytes.write_texts.Goals as goal

pub returns-in_err-write_whole-clause-err : goal.returns-in_err-write_whole-clause-err
returns-in_err-write_whole-clause-err g c =
    let fault = c.in_err-write_whole.field-0.0 in
    let fails : WritesFront (g.W.Write.contents c.loop-text.writer) (g.W.Write.contents c.write_whole.new.writer) c.text-item.result.items fault = search rules in
    let all = texts_fail _ _ _ c.args.texts.now c.loop-text.text-index c.text-item.result fault (search (rules, arith)) c.text-item.is c.loop-text.invariant fails in search rules
