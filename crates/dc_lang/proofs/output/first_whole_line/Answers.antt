use Rattle.std.proofs.Common.{◌+◌, ◌<◌, ◌≤◌, length, rules, arith, refl}
use Rattle.dc_lang.proofs.LinesLemmas.{line_length-le, cut_whole}
use Rattle.dc_lang.proofs.output.first_whole_line.Goals as goal

pub split_at-requires-else-len-bytes : goal.split_at-requires-else-len-bytes
split_at-requires-else-len-bytes c = rw c.line_len-len.ensures (line_length-le c.args.bytes.now)

pub returns-then-len-bytes-clause-lines : goal.returns-then-len-bytes-clause-lines
returns-then-len-bytes-clause-lines c =
    let less : c.line_len-len.result < length c.args.bytes.now = search (rules, arith) in
    cut_whole c.args.bytes.now _ _ c.line_len-len.result (c.line_len-len.result + 1) c.requires c.line_len-len.ensures (λ l. refl) (λ past. absurd (omega arith)) c.split_at.ensures.front c.split_at.ensures.back

pub returns-else-len-bytes-clause-lines : goal.returns-else-len-bytes-clause-lines
returns-else-len-bytes-clause-lines c =
    let past : length c.args.bytes.now ≤ c.line_len-len.result = search (rules, arith) in
    cut_whole c.args.bytes.now _ _ c.line_len-len.result c.line_len-len.result c.requires c.line_len-len.ensures (λ less. absurd (omega arith)) (λ p. refl) c.split_at-else-len-bytes.ensures.front c.split_at-else-len-bytes.ensures.back
