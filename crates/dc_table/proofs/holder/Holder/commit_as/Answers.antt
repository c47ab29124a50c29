use Rattle.std.proofs.Common.{rules, sym, subst}
use Rattle.dc_table.specs.Kept.{known_of}
use Rattle.dc_table.specs.Passes.{CanCommit}
use Rattle.dc_table.proofs.Moves.{commits_call}
use Rattle.dc_table.proofs.holder.Holder.commit_as.Goals as goal

pub fetch_add-requires : goal.fetch_add-requires
fetch_add-requires g c = let h = c.args.self.now.has_lock in let k = known_of c.args.self.now.pass.now.me.0 in
    (search rules, search rules, commits_call _ c.events_keep_the_rule.ensures.holders _ _ _ g.C.Asked.call h.has h.part (subst (CanCommit k.share.limit k.share.rows k.view) (sym c.requires.call) c.requires.can))
