use Rattle.std.proofs.Common.{rules}
use Rattle.dc_rows.proofs.evicting.empty.Goals as goal

pub returns-then-rewrite-clause-emptied : goal.returns-then-rewrite-clause-emptied
returns-then-rewrite-clause-emptied c = search rules
