use Rattle.std.proofs.Common.{sym, ◌∙◌}
use Rattle.dc_ops.proofs.LastNames.{leads_by}
use Rattle.dc_ops.proofs.Takings.{no_slash, was_present}
use Rattle.dc_ops.proofs.takes.plan_unlink.Goals as goal

pub returns-clause-taken : goal.returns-clause-taken
returns-clause-taken g c =
    sym (leads_by (g.S.Store.tree c.args.store.now) c.args.base c.args.path.now c.in_ok-name.name.bytes.now c.in_ok-at.ensures c.in_ok-name.ensures.named (no_slash _ _ c.in_ok-refuse-2.ensures.ok)
    ∙ was_present _ _ c.in_ok-inode.inode c.in_ok-inode.ensures.found)
