use Rattle.std.proofs.Common.{◌≡◌, ◌≤◌, ◌+◌, ◌-◌, get_or, sym, ◌∙◌, arith, below_more}
use Rattle.dc_row.proofs.Firsts.{spelled_if_zero}
use Rattle.dc_row.specs.Spelling.{fields, text_word}
use Rattle.dc_row.proofs.entry.is_spelled.Goals as goal

pub text-init : goal.text-init
text-init c j some less = absurd (omega arith)

pub text-preserved : goal.text-preserved
text-preserved c j some less = below_more (λ k. 4 ≤ k → get_or c.args.words.now k 0 ≡ text_word c.args.text.now (k - 4)) c.text.i
    (λ k l late. c.text.invariant k late l) (λ late. sym c.word.ensures ∙ c.if-word-text_word.false ∙ c.text_word.ensures) j less some

pub returns-clause-is : goal.returns-clause-is
returns-clause-is c = let f = fields c.args.tag c.args.kind c.args.number c.args.value c.args.text.now in let many = c.div_ceil-end.ensures in let done = c.text-test.false in
    spelled_if_zero c.args.words.now f (4 + c.div_ceil-end.result) c.are_zero.result c.requires.size.1 (omega arith) (omega arith) (omega arith) (omega arith) (omega arith)
    (λ j some few. c.text.invariant j some (omega arith)) c.are_zero.ensures
