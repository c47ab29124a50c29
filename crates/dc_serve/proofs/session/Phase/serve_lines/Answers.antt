use Rattle.std.proofs.Common.{◌∙◌, rules, arith}
use Rattle.dc_serve.proofs.LineByLine.{obeyed_next, some_next}
use Rattle.dc_serve.proofs.session.Phase.serve_lines.Goals as goal

pub returns-in_err-serve_line-clause-recorded : goal.returns-in_err-serve_line-clause-recorded
returns-in_err-serve_line-clause-recorded g c =
    some_next c.args.session c.args.self.now.lines.now c.loop-at.at c.line-item.result _ _ _ _ _ (search (rules, arith)) c.line-item.is c.loop-at.invariant.obeyed c.serve_line.ensures.recorded

pub loop-at-preserved : goal.loop-at-preserved
loop-at-preserved g c = record {
  fits = c.serve_line.ensures.same.0;
  same_share = c.serve_line.ensures.same.1 ∙ c.loop-at.invariant.same_share;
  obeyed = obeyed_next c.args.session c.args.self.now.lines.now c.loop-at.at c.line-item.result _ _ _ _ _ _ (search (rules, arith)) c.line-item.is c.loop-at.invariant.obeyed c.in_ok-serve_line.ensures.ok;
}
