use Rattle.std.proofs.Common.{◌∙◌, sym, ap}
use Rattle.dc_lang.specs.ReadingReplies.{begins_plainly, number_in}
use Rattle.dc_lang.proofs.Numbers.{begins_oddly, no_text, refused_text, text_taken, parsed}
use Rattle.dc_lang.proofs.reply.number_in.Goals as goal

pub returns-then-not-begins_plainly : goal.returns-then-not-begins_plainly
returns-then-not-begins_plainly c = sym (begins_oddly c.args.text.now (sym c.if-not-begins_plainly.ensures))

pub returns-in_err-ok : goal.returns-in_err-ok
returns-in_err-ok c = c.from_residual.ensures ∙ sym (no_text c.args.text.now (refused_text c.args.text.now c.from_utf8.result _ _ c.from_utf8.ensures.cases c.in_err-ok.ensures.value))

pub returns : goal.returns
returns c =
    let same = text_taken c.args.text.now c.in_ok-ok.field-0 c.from_utf8.result _ c.from_utf8.ensures.cases c.in_ok-ok.ensures.value in
    c.ok-2.ensures.value
    ∙ parsed _ c.in_ok-ok.field-0.now c.parse.result c.parse.ensures.value.0 (ap begins_plainly same ∙ sym c.begins_plainly.ensures ∙ c.if-not-begins_plainly.false)
    ∙ ap number_in same
