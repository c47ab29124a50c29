use Rattle.std.proofs.Common.{◌≡◌, ◌∷◌, ◌++◌, [], sym, ap, ◌∙◌}
use Rattle.std.specs.Fmt.{decimal}
use Rattle.dc_plain.specs.Requests.{answer_of}
use Rattle.dc_lang.specs.Replies.{answer_words}
use Rattle.dc_lang.specs.Writing.{behind_spaces}
use Rattle.dc_lang.proofs.ReplyLines.{reply_line}
use Rattle.dc_lang.proofs.write.write_reply.Goals as goal

pub returns : goal.returns
returns c =
    let first : c.into_bytes-out.result.items ≡ decimal c.args.session = ap (λ bytes. bytes.items) c.into_bytes-out.ensures.value ∙ c.in_ok-format.ensures.ok in
    let last : c.as_bytes.result.now ≡ 32 ∷ 64 ∷ decimal c.args.stamped.now.at ++ 10 ∷ [] = c.as_bytes.ensures.value ∙ c.in_ok-format-2.ensures.ok in
    c.in_ok-extend_from_slice.ensures.items
    ∙ ap (λ front. front ++ c.as_bytes.result.now) (c.in_ok-push_answer.ensures ∙ ap (λ front. front ++ behind_spaces (answer_words (answer_of c.args.stamped.now.reply))) first)
    ∙ ap (λ end. (decimal c.args.session ++ behind_spaces (answer_words (answer_of c.args.stamped.now.reply))) ++ end) last
    ∙ sym (reply_line (decimal c.args.session) (64 ∷ decimal c.args.stamped.now.at) (answer_words (answer_of c.args.stamped.now.reply)))
