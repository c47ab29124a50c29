use Rattle.std.proofs.Common.{refl, arith}
use Rattle.dc_row.proofs.Written.{writes_all, writes_head, writes_more}
use Rattle.dc_row.specs.Spelling.{fields}
use Rattle.dc_row.proofs.writing.spell.Goals as goal

pub loop-i-init : goal.loop-i-init
loop-i-init c = writes_head c.head_of.result c.args.number c.args.value (fields c.args.tag c.args.kind c.args.number c.args.value c.args.text.now) c.head_of.ensures.head refl refl

pub loop-i-preserved : goal.loop-i-preserved
loop-i-preserved c = writes_more c.loop-i.auto.i (let size = c.loop-i.invariant.size in omega arith) c.text_word.ensures c.loop-i.invariant

pub returns-clause-words : goal.returns-clause-words
returns-clause-words c = let many = c.div_ceil-end.ensures in let ended = c.loop-i-test.false in
    writes_all c.loop-i.auto.i (omega arith) c.loop-i.invariant
