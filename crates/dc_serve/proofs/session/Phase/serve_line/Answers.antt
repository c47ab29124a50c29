use Rattle.std.proofs.Common.{rules}
use Rattle.dc_serve.proofs.session.Phase.serve_line.Goals as goal

pub returns-clause-ok : goal.returns-clause-ok
returns-clause-ok g c = search rules
