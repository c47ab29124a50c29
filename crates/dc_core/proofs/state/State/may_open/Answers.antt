use Rattle.std.proofs.Common.{rules}
use Rattle.dc_core.specs.Machine.{event_by}
use Rattle.dc_core.specs.Machine.Act.{Open}
use Rattle.dc_core.specs.Shown.{state_of, refusal_shown}
use Rattle.dc_core.proofs.Lacking.{refused_as, open_first, open_tested}
use Rattle.dc_core.proofs.state.State.may_open.Goals as goal

pub returns-in_err-at_odd_row : goal.returns-in_err-at_odd_row
returns-in_err-at_odd_row c = let s = state_of c.args.self.now in let why = c.in_err-at_odd_row.field-0.0 in
    refused_as s (event_by c.args.actor (Open c.args.row)) c.from_residual.result why (search rules) (open_first s c.args.actor c.args.row (refusal_shown why) c.in_err-at_odd_row.ensures.tests)

pub returns : goal.returns
returns c = open_tested (state_of c.args.self.now) c.args.actor c.args.row c.may_be_opened.result c.in_ok-at_odd_row.ensures.tests c.may_be_opened.ensures
