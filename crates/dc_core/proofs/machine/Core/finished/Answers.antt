use Rattle.std.proofs.Common.{subst}
use Rattle.dc_core.specs.Lives.{AreLegal}
use Rattle.dc_core.specs.Shown.{state_of}
use Rattle.dc_core.proofs.Lived.{lived_is_legal}
use Rattle.dc_core.proofs.machine.Core.finished.Goals as goal

pub returns-clause-legal : goal.returns-clause-legal
returns-clause-legal c = subst AreLegal c.self.view_is (lived_is_legal c.records_are_legal.ensures (state_of c.self.inside.state) c.self.invariant)
