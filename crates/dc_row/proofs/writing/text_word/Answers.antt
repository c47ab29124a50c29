use Rattle.std.proofs.Common.{◌≡◌, ◌+◌, ◌*◌, ◌≤◌, drop, take, length, refl, sym, ap, ◌∙◌, arith, rules, length-drop}
use Rattle.std.specs.Int.{w64, from_le_bytes}
use Rattle.std.proofs.lemmas.Grind.{common_steps}
use Rattle.std.proofs.lemmas.List.{drop_all, take_all}
use Rattle.dc_names.specs.Words.{word_of}
use Rattle.dc_row.proofs.writing.text_word.Goals as goal

pub returns-then-text-from : goal.returns-then-text-from
unfolding word_of
returns-then-text-from c = rw (drop_all (8 * c.args.at) c.args.text.now (omega arith)) refl

pub returns-in-Some : goal.returns-in-Some
unfolding word_of
returns-in-Some c =
    let is : c.in-Some.block.now ≡ take 8 (drop (8 * c.args.at) c.args.text.now) = search rules in c.from_le_bytes.ensures ∙ ap (from_le_bytes w64) is

pub returns-in-None : goal.returns-in-None
returns-in-None c =
    let few : length c.args.text.now ≤ 8 * c.args.at + 8 = grind (arith, common_steps) in
    c.pack_from.ensures ∙ sym (ap word_of (take_all 8 (drop (8 * c.args.at) c.args.text.now) (omega (arith, length-drop (8 * c.args.at) c.args.text.now))))
