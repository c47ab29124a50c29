use Rattle.std.proofs.Common.{rules}
use Rattle.dc_core.specs.Machine.Act.{Open}
use Rattle.dc_core.specs.Shown.{state_of}
use Rattle.dc_core.proofs.Stepped.{refused_as}
use Rattle.dc_core.proofs.state.State.open.Goals as goal

pub returns-in_err-may_open : goal.returns-in_err-may_open
returns-in_err-may_open c =
    refused_as (state_of c.args.self.now) (record { actor = c.args.actor; act = Open c.args.row }) c.from_residual.result c.in_err-may_open.field-0.0 (search rules) (c.in_err-may_open.ensures)

pub do_open-requires-clause-may : goal.do_open-requires-clause-may
do_open-requires-clause-may c = c.in_ok-may_open.ensures
