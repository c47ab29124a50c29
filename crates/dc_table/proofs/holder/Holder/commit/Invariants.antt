use Rattle.std.proofs.Common.{false}
use Rattle.dc_plain.specs.Requests.{request_of}
use Rattle.dc_table.proofs.holder.Holder.commit.Given as goal

abbrev pub ghosts-commit_as : goal.ghosts-commit_as
ghosts-commit_as a = record { call = request_of a.call.now; about = 0; first = false }
