use Rattle.dc_core.specs.Shown.{state_of, event_shown}
use Rattle.dc_core.proofs.Stepped.{stepped_lives}
use Rattle.dc_core.proofs.machine.Core.step.Goals as goal

pub invariant_of-self : goal.invariant_of-self
invariant_of-self c = stepped_lives record { holders = c.events_keep_the_rule.ensures.holders; walkers = c.events_keep_the_rule.ensures.walkers; loads = c.loads_tell_nothing.ensures } (state_of c.self.inside.state) (state_of c.step.new.self) (event_shown c.args.event) c.step.result c.self.invariant c.step.ensures

pub returns-clause-rule : goal.returns-clause-rule
returns-clause-rule c = stepped_lives record { holders = c.events_keep_the_rule.ensures.holders; walkers = c.events_keep_the_rule.ensures.walkers; loads = c.loads_tell_nothing.ensures } (state_of c.self.inside.state) (state_of c.step.new.self) (event_shown c.args.event) c.step.result c.self.invariant c.step.ensures
