use Rattle.std.proofs.Common.{rules}
use Rattle.dc_check.proofs.judge.Judge.due.Goals as goal

pub returns-clause-ok : goal.returns-clause-ok
returns-clause-ok c = search rules

pub returns-clause-reply : goal.returns-clause-reply
returns-clause-reply c = search rules
