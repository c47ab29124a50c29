use Rattle.std.proofs.Common.{false}
use Rattle.dc_events.specs.Walks.{no_walk}
use Rattle.dc_table.proofs.holder.Reader.check.Given as goal

abbrev pub ghosts-check_as : goal.ghosts-check_as
ghosts-check_as a = record { call = no_walk.call; about = a.i; first = false }
