use Rattle.std.proofs.Common.{Some, None, subst, rules}
use Rattle.dc_core.specs.Refusals.{FirstRow, IsTouched}
use Rattle.dc_core.specs.Shown.{state_of}
use Rattle.dc_plain.specs.Requests.{request_of}
use Rattle.dc_core.proofs.Made.{after_rows}
use Rattle.dc_core.proofs.state.State.may_be_made.Goals as goal

pub returns-in-Some : goal.returns-in-Some
returns-in-Some c = let s = state_of c.args.self.now in let r = request_of c.args.call.now in
    (after_rows s r (Some c.in-Some.row) c.in_ok-alters.field-0 c.in_ok-alters.ensures.test c.in_ok-refuse.ensures (search rules) (subst (FirstRow s.rows (IsTouched s r)) c.in-Some.is c.in_ok-row.ensures))

pub returns-in-None : goal.returns-in-None
returns-in-None c = let s = state_of c.args.self.now in let r = request_of c.args.call.now in
    (after_rows s r None c.in_ok-alters.field-0 c.in_ok-alters.ensures.test c.in_ok-refuse.ensures (search rules) (subst (FirstRow s.rows (IsTouched s r)) c.in-None.is c.in_ok-row.ensures))
