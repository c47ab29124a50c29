use Rattle.dc_core.proofs.Stepped.{all_steps}
use Rattle.dc_core.proofs.laws.events_are_steps_of_the_table.Goals as goal

pub returns : goal.returns
returns c = all_steps record { holders = c.events_keep_the_rule.ensures.holders; walkers = c.events_keep_the_rule.ensures.walkers; loads = c.loads_tell_nothing.ensures }
