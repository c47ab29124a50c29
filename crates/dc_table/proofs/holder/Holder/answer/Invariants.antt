use Rattle.std.proofs.Common.{false}
use Rattle.dc_plain.specs.Requests.{request_of}
use Rattle.dc_table.proofs.holder.Holder.answer.Given as goal

abbrev pub ghosts-answer_as : goal.ghosts-answer_as
ghosts-answer_as g a = record { call = request_of a.call.now; about = 0; first = false }
