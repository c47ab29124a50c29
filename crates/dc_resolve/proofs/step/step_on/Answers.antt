use Rattle.std.proofs.Common.{rules}
use Rattle.dc_resolve.proofs.step.step_on.Goals as goal

pub find_hashed-requires-clause-asked : goal.find_hashed-requires-clause-asked
find_hashed-requires-clause-asked g c = search rules

pub find_hashed-requires-clause-may : goal.find_hashed-requires-clause-may
find_hashed-requires-clause-may g c = search rules

pub returns-in-DotDot-clause-leads : goal.returns-in-DotDot-clause-leads
returns-in-DotDot-clause-leads g c = search rules

pub returns-in_ok-find_hashed-in-DotDot-2-clause-leads : goal.returns-in_ok-find_hashed-in-DotDot-2-clause-leads
returns-in_ok-find_hashed-in-DotDot-2-clause-leads g c = search rules
