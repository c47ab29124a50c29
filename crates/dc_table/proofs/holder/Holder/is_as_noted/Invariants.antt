use Rattle.std.proofs.Common.{false}
use Rattle.dc_events.specs.Walks.{no_walk}
use Rattle.dc_table.proofs.holder.Holder.is_as_noted.Given as goal

abbrev pub ghosts-compare_as : goal.ghosts-compare_as
ghosts-compare_as a = record { call = no_walk.call; about = a.i; first = false }
