use Rattle.dc_resolve.proofs.Spending.{may_first, spends_first}
use Rattle.dc_resolve.proofs.parts.ask_first.Goals as goal

pub step_on-requires-clause-spend : goal.step_on-requires-clause-spend
step_on-requires-clause-spend g c = let first = c.in-Some.ensures.first in may_first g.F.Finder first.parts c.requires.spend

pub returns-clause-left : goal.returns-clause-left
returns-clause-left g c = let first = c.in-Some.ensures.first in spends_first g.F.Finder first.parts c.in_ok-step_on.ensures.left
