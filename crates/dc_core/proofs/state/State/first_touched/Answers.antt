use Rattle.std.proofs.Common.{◌≤◌, arith, rules, sym, ◌∙◌, true≢false}
use Rattle.dc_plain.specs.Requests.{request_of}
use Rattle.dc_core.specs.Refusals.{IsTouched}
use Rattle.dc_core.specs.Shown.{state_of}
use Rattle.dc_core.proofs.Rowed.{next_row}
use Rattle.dc_core.proofs.state.State.first_touched.Goals as goal

pub loop-row-preserved : goal.loop-row-preserved
loop-row-preserved c = next_row (IsTouched (state_of c.args.self.now) (request_of c.args.call.now)) c.loop-row.row c.loop-row.invariant (λ t. true≢false (sym (c.in_ok-is_touched.ensures.1 t) ∙ c.if-branch.false))

pub returns : goal.returns
returns c row less t =
    let past : c.args.self.now.rows ≤ c.loop-row.row = search rules in
    c.loop-row.invariant row (omega (arith, less, past)) t
