use Rattle.std.proofs.Common.{◌∙◌, ◌++◌, ap, sym, append-nil}
use Rattle.dc_lang.specs.Phases.{ordered}
use Rattle.dc_lang.specs.Served.{all_served}
use Rattle.dc_lang.proofs.Serving.{grown, sessions_more, sessions_none}
use Rattle.dc_lang.proofs.input.add_phase.Goals as goal

pub loop-session-init : goal.loop-session-init
loop-session-init c = sym (ap (λ l. all_served c.args.out.now.items ++ l) (sessions_none c.args.phase (ordered c.args.lines.now)) ∙ append-nil (all_served c.args.out.now.items))

pub loop-session-preserved : goal.loop-session-preserved
loop-session-preserved c = grown _ _ _ _ _ _ c.in_ok-add_session.ensures c.loop-session.invariant (sessions_more c.args.phase c.loop-session.session (ordered c.args.lines.now))
