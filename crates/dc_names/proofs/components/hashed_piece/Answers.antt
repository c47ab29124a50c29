use Rattle.std.proofs.Common.{◌==◌, length, ap, sym, arith}
use Rattle.std.proofs.lemmas.List.Sums.{position_or_len_is}
use Rattle.dc_names.proofs.components.hashed_piece.Goals as goal

pub returns-then-bytes-at-eq47-clause-len : goal.returns-then-bytes-at-eq47-clause-len
returns-then-bytes-at-eq47-clause-len c =
    sym (position_or_len_is (λ b. b == 47) c.args.bytes.now c.loop-at.at 0 (omega arith) c.loop-at.invariant.none (λ within. ap (λ b. b == 47) c.if-bytes-at-eq47.true))

pub returns-clause-len : goal.returns-clause-len
returns-clause-len c =
    let all = c.args.bytes.now in
    sym (position_or_len_is (λ b. b == 47) all (length all) 0 (omega arith) (λ k within. c.loop-at.invariant.none k (omega arith)) (λ beyond. absurd (omega arith)))
