use Rattle.std.proofs.Common.{◌∙◌, List, map, ap}
use Rattle.dc_lang.specs.declared.line.Line.{Line}
use Rattle.dc_lang.specs.Commands.{meaning_of}
use Rattle.dc_lang.specs.Lines.{whole_lines}
use Rattle.dc_lang.specs.Responses.{response_of}
use Rattle.dc_check.specs.Records.{orders_of, served_orders}
use Rattle.dc_check.proofs.Pairing.{pairs, served_orders-are, sessions_below}
use Rattle.dc_check.proofs.record.record_of.Goals as goal

pub stamps_in-requires : goal.stamps_in-requires
stamps_in-requires c = sessions_below (whole_lines c.args.output.now) (map response_of c.in_ok-replies.replies.items) c.in_ok-replies.ensures.ok

pub returns : goal.returns
returns c =
    let orders = ap served_orders c.deref-2.ensures.value ∙ served_orders-are c.in_ok-served.served.items _ c.in_ok-served.ensures
    ∙ ap (λ (lines : List Line). orders_of (map meaning_of lines)) c.deref.ensures.value in
    let all = pairs c.args.input.now c.args.output.now _ _ _ c.stamps_in.result (record { says = c.in_ok-lines.ensures.ok; tells = c.in_ok-replies.ensures.ok }) orders c.stamps_in.ensures.ok c.stamps_in.ensures.err in
    record { ok = all.ok; err = all.err }
