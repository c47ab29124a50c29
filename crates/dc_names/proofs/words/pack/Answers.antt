use Rattle.std.proofs.Common.{◌≡◌, ◌-◌, ◌≤◌, drop, take, length, length-drop, length-take, get_or, ap, ◌∙◌, arith, rules}
use Rattle.std.proofs.lemmas.Grind.{common_steps}
use Rattle.std.specs.Int.{from_le_bytes, w16, w32}
use Rattle.dc_names.specs.Words.{word_of, bytes_in}
use Rattle.dc_names.proofs.Lasts.{both_ends}
use Rattle.dc_names.proofs.Packed.{word_of-1, word_of-2, word_of-4, bytes_in-word_of}
use Rattle.dc_names.proofs.words.pack.Goals as goal

pub returns-in-Some-Some-clause-word : goal.returns-in-Some-Some-clause-word
returns-in-Some-Some-clause-word c =
    let text = c.args.bytes.now in let back = length text - 4 in
    let long : 4 ≤ length text = search rules in
    let first : c.in-Some-Some.first.now ≡ take 4 text = search rules in
    let last : c.in-Some-Some.last.now ≡ drop back text = search rules in
    let low : c.from-low.result ≡ word_of (take 4 text) = c.from-low.ensures ∙ c.from_le_bytes.ensures ∙ ap (from_le_bytes w32) first ∙ word_of-4 (take 4 text) (omega (arith, length-take 4 text)) in
    let high : c.from.result ≡ word_of (drop back text) = c.from.ensures ∙ c.from_le_bytes-in-Some-Some.ensures ∙ ap (from_le_bytes w32) last ∙ word_of-4 (drop back text) (omega (arith, length-drop back text)) in
    both_ends 4 text low high (omega arith) (omega arith) long c.requires (λ i. (c.type_inv.bytes i).fits)

pub returns-in-Some-Some-2-clause-word : goal.returns-in-Some-Some-2-clause-word
returns-in-Some-Some-2-clause-word c =
    let text = c.args.bytes.now in let back = length text - 2 in
    let long : 2 ≤ length text = search rules in
    let few : length text ≤ 4 = grind (arith, common_steps) in
    let first : c.in-Some-Some-2.first.now ≡ take 2 text = search rules in
    let last : c.in-Some-Some-2.last.now ≡ drop back text = search rules in
    let low : c.from-low-in-Some-Some-2.result ≡ word_of (take 2 text) = c.from-low-in-Some-Some-2.ensures ∙ c.from_le_bytes-in-Some-Some-2.ensures ∙ ap (from_le_bytes w16) first ∙ word_of-2 (take 2 text) (omega (arith, length-take 2 text)) in
    let high : c.from-in-Some-Some-2.result ≡ word_of (drop back text) = c.from-in-Some-Some-2.ensures ∙ c.from_le_bytes-in-Some-Some-2-2.ensures ∙ ap (from_le_bytes w16) last ∙ word_of-2 (drop back text) (omega (arith, length-drop back text)) in
    both_ends 2 text low high (omega arith) (omega arith) long few (λ i. (c.type_inv.bytes i).fits)

pub returns-clause-word : goal.returns-clause-word
returns-clause-word c =
    let text = c.args.bytes.now in
    let few : length text ≤ 1 = search rules in let one : c.from-2.result ≡ get_or text 0 0 = search rules in one ∙ word_of-1 text few

pub returns-in-Some-Some-clause-back : goal.returns-in-Some-Some-clause-back
returns-in-Some-Some-clause-back c = ap bytes_in (returns-in-Some-Some-clause-word c) ∙ bytes_in-word_of c.args.bytes.now c.requires (λ i. (c.type_inv.bytes i).fits)

pub returns-in-Some-Some-2-clause-back : goal.returns-in-Some-Some-2-clause-back
returns-in-Some-Some-2-clause-back c = ap bytes_in (returns-in-Some-Some-2-clause-word c) ∙ bytes_in-word_of c.args.bytes.now c.requires (λ i. (c.type_inv.bytes i).fits)

pub returns-clause-back : goal.returns-clause-back
returns-clause-back c = ap bytes_in (returns-clause-word c) ∙ bytes_in-word_of c.args.bytes.now c.requires (λ i. (c.type_inv.bytes i).fits)
