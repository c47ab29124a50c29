use Rattle.std.proofs.Common.{rules, subst}
use Rattle.dc_sleepers.specs.LockLaw.{Remembers}
use Rattle.dc_sleepers.specs.LocksShown.{shown}
use Rattle.dc_sleepers.proofs.LockRuns.{remembers, acted}
use Rattle.dc_sleepers.proofs.lock.Lock.step.Goals as goal

pub invariant_of-self : goal.invariant_of-self
invariant_of-self c = acted (shown c.self.inside.state) c.args.event c.step.result (shown c.step.new.self) c.self.invariant (search rules) c.step.ensures

pub returns-then-event-len-clause-remembered : goal.returns-then-event-len-clause-remembered
returns-then-event-len-clause-remembered c = remembers (shown c.step.new.self) (acted (shown c.self.inside.state) c.args.event c.step.result (shown c.step.new.self) c.self.invariant (search rules) c.step.ensures)

pub returns-else-event-len-clause-remembered : goal.returns-else-event-len-clause-remembered
returns-else-event-len-clause-remembered c = subst Remembers c.self.view_is (remembers (shown c.self.inside.state) c.self.invariant)
