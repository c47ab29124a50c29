use Rattle.dc_plain.specs.Requests.{request_of}
use Rattle.dc_table.proofs.holder.Reader.pivot.Given as goal

abbrev pub ghosts-pivot_as : goal.ghosts-pivot_as
ghosts-pivot_as a = record { call = request_of a.call.now; about = 0; first = a.first }
