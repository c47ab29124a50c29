use Rattle.std.proofs.Common.{arith}
use Rattle.dc_plain.specs.KeysShown.{key_shown}
use Rattle.dc_walk.proofs.Rooms.{number_so}
use Rattle.dc_walk.proofs.Standing.{none_stands, one_other, stands_so}
use Rattle.dc_walk.proofs.used.standing.Goals.{else-number-key-via-then-number-key+else-tells_at, else-number-key-via-else-number-key}
use Rattle.dc_walk.proofs.used.standing.Goals as goal

pub returns-then-tells_at-clause-some : goal.returns-then-tells_at-clause-some
returns-then-tells_at-clause-some c =
    let within = c.loop-i-test.true in let many = c.len-i-end.ensures.many in
    stands_so c.words_have_the_fact_they_spell.ensures c.args.room.now.items (key_shown c.args.key) c.loop-i.i (omega arith) c.requires.spelled c.loop-i.invariant (c.tells_at.ensures.0 cc)

pub returns-clause-none : goal.returns-clause-none
returns-clause-none c = none_stands c.args.room.now.items (key_shown c.args.key) c.requires.spelled (λ j h. let past = c.loop-i-test.false in let many = c.len-i-end.ensures.many in c.loop-i.invariant j (omega arith))

pub loop-i-preserved : goal.loop-i-preserved
loop-i-preserved c = one_other c.args.room.now.items (key_shown c.args.key) c.loop-i.i c.loop-i.invariant (λ tells. elim c.else-number-key.branch [
  | else-number-key-via-then-number-key+else-tells_at w ↦ let yes = w.tells_at.ensures.1 tells in absurd cc
  | else-number-key-via-else-number-key w ↦
      absurd (w.if-number-key.false (number_so c.words_at.result.now (key_shown c.args.key) c.words_at.ensures.size.0 c.words_at.ensures.words c.number.ensures tells))
])
