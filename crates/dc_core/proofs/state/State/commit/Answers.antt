use Rattle.std.proofs.Common.{rules}
use Rattle.dc_core.specs.Machine.Act.{Commit}
use Rattle.dc_core.specs.Shown.{state_of}
use Rattle.dc_core.proofs.Stepped.{refused_as}
use Rattle.dc_core.proofs.state.State.commit.Goals as goal

pub returns-in_err-may_commit : goal.returns-in_err-may_commit
returns-in_err-may_commit c =
    refused_as (state_of c.args.self.now) (record { actor = c.args.actor; act = Commit }) c.from_residual.result c.in_err-may_commit.field-0.0 (search rules) (c.in_err-may_commit.ensures)
