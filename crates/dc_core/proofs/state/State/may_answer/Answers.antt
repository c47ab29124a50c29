use Rattle.std.proofs.Common.{true, rules}
use Rattle.dc_core.specs.Machine.{event_by}
use Rattle.dc_core.specs.Machine.Act.{Give}
use Rattle.dc_core.specs.Shown.{state_of, refusal_shown}
use Rattle.dc_core.proofs.Lacking.{refused_as, answer_first}
use Rattle.dc_core.proofs.Tests.{no_call_answered, memory_lacked, call_answered}
use Rattle.dc_core.proofs.state.State.may_answer.Goals as goal

pub returns-in_err-may_give : goal.returns-in_err-may_give
returns-in_err-may_give c = let s = state_of c.args.self.now in let why = c.in_err-may_give.field-0.0 in
    refused_as s (event_by c.args.actor (Give true)) c.from_residual.result why (search rules) (answer_first s c.args.actor (refusal_shown why) c.in_err-may_give.ensures)

pub returns-in_default : goal.returns-in_default
returns-in_default c = no_call_answered c.args.self.now c.args.actor c.index.result.now c.index.ensures c.in_ok-may_give.ensures c.in_default.is

pub returns-in_err-alters : goal.returns-in_err-alters
returns-in_err-alters c = memory_lacked c.args.self.now c.args.actor c.index.result.now c.index.ensures c.in_ok-may_give.ensures c.from_residual-in_err-alters.result _ (search rules) c.in-Some.is

pub returns : goal.returns
returns c = call_answered c.args.self.now c.args.actor c.index.result.now c.index.ensures c.in_ok-may_give.ensures c.refuse.result c.in_ok-alters.field-0 _ _ c.in-Some.is c.as_call.ensures c.in_ok-alters.ensures.test c.refuse.ensures
