use Rattle.std.proofs.Common.{rules}
use Rattle.dc_table.proofs.Walks.{reads_word, read_place}
use Rattle.dc_table.proofs.holder.Reader.read_word.Goals as goal

pub load-requires : goal.load-requires
load-requires c = let idle = c.requires.can.0.idle in (
  search rules,
  search rules,
  read_place _ _ _ _ _ _ c.word_of-place.ensures.place (reads_word _ c.events_keep_the_rule.ensures.walkers _ _ _ c.args.row c.args.word idle.part c.requires.can.1),
)
