use Rattle.std.proofs.Common.{rules}
use Rattle.dc_table.proofs.Moves.{shuts, at_place}
use Rattle.dc_table.proofs.holder.Holder.shut_row.Goals as goal

pub fetch_add-requires : goal.fetch_add-requires
fetch_add-requires c = let h = c.args.self.now.has_lock in (
  search rules,
  search rules,
  at_place _ _ _ _ c.args.row _ c.word_of-count.ensures.place (shuts _ c.events_keep_the_rule.ensures.holders _ _ _ c.args.row c.requires.row.0 h.has h.part c.requires.row.1),
)
