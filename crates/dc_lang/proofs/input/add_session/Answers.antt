use Rattle.std.proofs.Common.{rules, arith}
use Rattle.dc_lang.proofs.Serving.{grown, in_phase-more}
use Rattle.dc_lang.proofs.input.add_session.Goals as goal

pub loop-line-preserved : goal.loop-line-preserved
loop-line-preserved c =
    let more = in_phase-more c.args.phase c.args.session c.args.lines.now c.loop-line.line-index c.line-item.result (search (rules, arith)) c.line-item.is in
    grown _ _ _ _ _ _ c.in_ok-add_line.ensures c.loop-line.invariant more
