use Rattle.std.proofs.Common.{◌≡◌, true, sym, subst, rules}
use Rattle.dc_core.specs.Machine.{event_by}
use Rattle.dc_core.specs.Machine.Act.{Give}
use Rattle.dc_core.specs.Shown.{state_of}
use Rattle.dc_core.specs.Steps.{Steps}
use Rattle.dc_core.proofs.Stepped.{refused_as}
use Rattle.dc_core.proofs.state.State.give.Goals as goal

pub returns-in_err-may_answer : goal.returns-in_err-may_answer
returns-in_err-may_answer c = let s = state_of c.args.self.now in let j = c.args.actor in
    let asked : c.args.answer ≡ true = search rules in
    subst (λ b. Steps s (event_by j (Give b)) c.from_residual.result s) (sym asked)
    (refused_as s (event_by j (Give true)) c.from_residual.result c.in_err-may_answer.field-0.0 (search rules) c.in_err-may_answer.ensures)
