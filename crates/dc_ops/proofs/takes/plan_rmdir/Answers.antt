use Rattle.std.proofs.Common.{rules, sym, ◌∙◌}
use Rattle.dc_ops.proofs.LastNames.{leads_by}
use Rattle.dc_ops.proofs.Takings.{directory_ends, was_present}
use Rattle.dc_ops.proofs.takes.plan_rmdir.Goals as goal

pub returns-clause-settled : goal.returns-clause-settled
returns-clause-settled g c = search rules

pub returns-clause-taken : goal.returns-clause-taken
returns-clause-taken g c =
    let there = was_present _ _ c.in_ok-inode.inode c.in_ok-inode.ensures.found in
    sym (leads_by (g.S.Store.tree c.args.store.now) c.args.base c.args.path.now c.in_ok-name.name.bytes.now c.in_ok-at.ensures c.in_ok-name.ensures.named (directory_ends _ _ _ there c.is_directory.ensures c.in_ok-refuse.ensures.ok) ∙ there)
