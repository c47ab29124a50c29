use Rattle.std.proofs.Common.{◌≡◌, ◌+◌, ◌-◌, ◌*◌, ◌/◌, ◌^◌, ◌≤◌, drop, length, ap, ◌∙◌, arith, rules}
use Rattle.std.specs.Int.{from_le_bytes, w64}
use Rattle.dc_names.specs.Words.{word_of}
use Rattle.dc_names.proofs.Lasts.{last_bytes}
use Rattle.dc_names.proofs.words.pack_from.Goals as goal

pub returns-in-Some : goal.returns-in-Some
unfolding word_of
returns-in-Some c =
    let text = c.args.text.now in
    let long : 8 ≤ length text = search rules in
    let is : c.in-Some.block.now ≡ drop (length text - 8) text = search rules in
    let packed : c.from_le_bytes.result ≡ from_le_bytes w64 (drop (length text - 8) text) = c.from_le_bytes.ensures ∙ ap (from_le_bytes w64) is in
    ap (λ n. n / 2 ^ (8 * (c.args.from + 8 - length text))) packed ∙ last_bytes 8 text c.args.from (omega arith) long c.requires.few (λ i. (c.type_inv.text i).fits)
