use Rattle.dc_plain.specs.Requests.{request_of}
use Rattle.dc_table.proofs.holder.Reader.note.Given as goal

abbrev pub ghosts-note_as : goal.ghosts-note_as
ghosts-note_as a = record { call = request_of a.call.now; about = a.row; first = a.first }
