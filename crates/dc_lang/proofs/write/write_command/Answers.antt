use Rattle.std.proofs.Common.{◌≡◌, ◌∷◌, ◌++◌, [], map, ap, ◌∙◌}
use Rattle.std.specs.Fmt.{decimal}
use Rattle.dc_lang.specs.Commands.{verb_text}
use Rattle.dc_lang.specs.Words.{spelled}
use Rattle.dc_lang.specs.Writing.{behind_spaces}
use Rattle.dc_lang.proofs.ReplyLines.{command_line_is}
use Rattle.dc_lang.proofs.write.write_command.Goals as goal

pub returns : goal.returns
returns c =
    let first : c.into_bytes-out.result.items ≡ decimal c.args.command.now.session ++ 32 ∷ [] = ap (λ bytes. bytes.items) c.into_bytes-out.ensures.value ∙ c.in_ok-format.ensures.ok in
    let second : c.extend_from_slice.new.self.items ≡ (decimal c.args.command.now.session ++ 32 ∷ []) ++ verb_text c.args.command.now.verb =
    c.in_ok-extend_from_slice.ensures.items ∙ ap (λ front. front ++ c.text.result.now) first ∙ ap (λ word. (decimal c.args.command.now.session ++ 32 ∷ []) ++ word) c.text.ensures in
    c.in_ok-push_words.ensures
    ∙ ap (λ words. c.extend_from_slice.new.self.items ++ behind_spaces (map spelled (map (λ word. word.items) words))) c.deref.ensures.value
    ∙ ap (λ front. front ++ behind_spaces (map spelled (map (λ word. word.items) c.args.command.now.words.items))) second
    ∙ command_line_is (decimal c.args.command.now.session) (verb_text c.args.command.now.verb) (map spelled (map (λ word. word.items) c.args.command.now.words.items))
