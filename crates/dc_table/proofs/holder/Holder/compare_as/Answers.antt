use Rattle.std.proofs.Common.{rules}
use Rattle.dc_table.proofs.Moves.{count_place}
use Rattle.dc_table.proofs.Walks.{compare_place, compares_note}
use Rattle.dc_table.proofs.holder.Holder.compare_as.Goals as goal

pub load-requires : goal.load-requires
load-requires g c = let h = c.args.self.now.has_lock in (
  search rules,
  search rules,
  rw c.requires.asked (compare_place _ _ _ _ c.args.i _ _ (count_place c.args.row _ c.word_of-count.ensures.place) (compares_note _ _ _ _ c.args.i c.args.row c.args.noted h.has h.part c.requires.noted.1)),
)
