use Rattle.std.proofs.Common.{rules}
use Rattle.dc_table.proofs.Moves.{count_place}
use Rattle.dc_table.proofs.Walks.{notes_row, note_place}
use Rattle.dc_table.proofs.holder.Reader.note_as.Goals as goal

pub load-requires : goal.load-requires
load-requires g c = let a = c.requires.asked in let at = c.requires.can.0 in (
  search rules,
  search rules,
  rw (a.0, a.1, a.2) (note_place _ _ _ _ _ c.args.row c.args.first _ _ (count_place c.args.row _ c.word_of-count.ensures.place) (notes_row _ c.events_keep_the_rule.ensures.walkers _ _ _ _ c.args.row c.args.first at.inside at.idle.part c.requires.can.1.fresh)),
)
