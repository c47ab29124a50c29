use Rattle.std.proofs.Common.{◌∙◌, Some, None, cond, sym, ap, List, ℕ, option_map}
use Rattle.std.specs.Borrow.{Bor}
use Rattle.std.proofs.lemmas.Bool.Decides.{Decides-eqb}
use Rattle.dc_lang.proofs.Numbers.{other_number}
use Rattle.dc_lang.proofs.Responses.{without_newline-none, without_newline-cut}
use Rattle.dc_lang.proofs.reply.without_newline.Goals as goal

pub returns-in_err-last : goal.returns-in_err-last
returns-in_err-last c = ap (option_map (λ (line : Bor (List ℕ)). line.now)) c.from_residual.ensures ∙ sym (without_newline-none c.args.text.now c.in_err-last.ensures.cases)

pub returns-then-last-eq10 : goal.returns-then-last-eq10
returns-then-last-eq10 c = sym (without_newline-cut c.args.text.now c.in_ok-last.line.now c.in_ok-last.last.now c.in_ok-last.ensures.cases.0
    ∙ ap (λ b. cond b (Some c.in_ok-last.line.now) None) ((Decides-eqb c.in_ok-last.last.now 10).1 c.if-last-eq10.true))

pub returns-else-last-eq10 : goal.returns-else-last-eq10
returns-else-last-eq10 c = sym (without_newline-cut c.args.text.now c.in_ok-last.line.now c.in_ok-last.last.now c.in_ok-last.ensures.cases.0
    ∙ ap (λ b. cond b (Some c.in_ok-last.line.now) None) (other_number c.in_ok-last.last.now 10 c.if-last-eq10.false))
