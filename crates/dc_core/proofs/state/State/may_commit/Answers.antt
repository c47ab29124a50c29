use Rattle.std.proofs.Common.{subst, ◌∙◌, rules}
use Rattle.dc_core.specs.Machine.{event_by}
use Rattle.dc_core.specs.Machine.Act.{Commit}
use Rattle.dc_core.specs.Memory.{TestedBy}
use Rattle.dc_core.specs.Refusals.{MayBeMade}
use Rattle.dc_core.specs.Shown.{state_of, refusal_shown}
use Rattle.dc_core.proofs.Lacking.{refused_as, commit_first, commit_tested}
use Rattle.dc_core.proofs.state.State.may_commit.Goals as goal

pub returns-in_err-call : goal.returns-in_err-call
returns-in_err-call c = let s = state_of c.args.self.now in let why = c.in_err-call.field-0.0 in
    refused_as s (event_by c.args.actor Commit) c.from_residual.result why (search rules) (commit_first s c.args.actor (refusal_shown why) c.in_err-call.ensures.tests)

pub returns : goal.returns
returns c = let s = state_of c.args.self.now in let call = c.as_call.ensures ∙ c.in_ok-call.ensures.call in
    commit_tested s c.args.actor c.may_be_made.result c.in_ok-call.ensures.tests (subst (λ r. TestedBy (MayBeMade s r) (Unit {0}) c.may_be_made.result) call c.may_be_made.ensures)
