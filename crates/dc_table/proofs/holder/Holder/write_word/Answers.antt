use Rattle.std.proofs.Common.{rules}
use Rattle.dc_table.proofs.Moves.{writes_word, put_place}
use Rattle.dc_table.proofs.holder.Holder.write_word.Goals as goal

pub store-requires : goal.store-requires
store-requires c = let h = c.args.self.now.has_lock in let can = c.requires.can in (
  search rules,
  search rules,
  put_place _ _ _ _ _ _ _ c.word_of-place.ensures.place (writes_word _ c.events_keep_the_rule.ensures.holders _ _ _ c.args.row c.args.word _ can.inside can.after_count can.within h.has h.part can.odd),
)
