use Rattle.std.proofs.Common.{rules}
use Rattle.dc_serve.proofs.running.understand.Goals as goal

-- nothing was read
pub returns-then-not-are_right-clause-err : goal.returns-then-not-are_right-clause-err
returns-then-not-are_right-clause-err g c = search rules
