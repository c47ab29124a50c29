use Rattle.std.proofs.Common.{rules}
use Rattle.dc_table.proofs.Moves.{count_place}
use Rattle.dc_table.proofs.Walks.{checks_note, check_place}
use Rattle.dc_table.proofs.holder.Reader.check_as.Goals as goal

pub load-requires : goal.load-requires
load-requires g c = let idle = c.requires.can.0.idle in (
  search rules,
  search rules,
  rw c.requires.asked (check_place _ _ _ _ c.args.i _ _ (count_place c.args.row _ c.word_of-count.ensures.place) (checks_note _ c.events_keep_the_rule.ensures.walkers _ _ _ c.args.i c.args.row c.args.noted idle.part c.requires.can.1)),
)
