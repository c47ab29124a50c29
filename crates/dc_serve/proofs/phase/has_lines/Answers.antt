use Rattle.std.proofs.Common.{◌≡◌, rules, arith, true, false, ◌++◌, ◌∙◌, ap₂}
use Rattle.dc_lang.specs.Commands.{meaning_of}
use Rattle.dc_serve.specs.Threads.{is_order_of}
use Rattle.dc_serve.proofs.Orders.{has_one, no_line, ordered_by-more}
use Rattle.dc_serve.proofs.phase.has_lines.Goals as goal

pub returns-then-is_of-clause-some : goal.returns-then-is_of-clause-some
returns-then-is_of-clause-some c _ =
    let is : is_order_of c.args.session (meaning_of c.line-item.result) ≡ true = search rules in
    has_one c.args.session c.args.lines.now c.loop-line.line-index c.line-item.result (search (rules, arith)) c.line-item.is is

pub loop-line-preserved : goal.loop-line-preserved
loop-line-preserved c =
    let is : is_order_of c.args.session (meaning_of c.line-item.result) ≡ false = search rules in
    ordered_by-more c.args.session c.args.lines.now c.loop-line.line-index c.line-item.result (search (rules, arith)) c.line-item.is
    ∙ ap₂ (λ l m. l ++ m) c.loop-line.invariant (no_line c.args.session c.line-item.result is)
