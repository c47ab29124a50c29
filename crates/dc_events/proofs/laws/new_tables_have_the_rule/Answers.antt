use Rattle.dc_events.proofs.Opening.{opening_rule}
use Rattle.dc_events.proofs.laws.new_tables_have_the_rule.Goals as goal

pub returns : goal.returns
returns c = opening_rule c.empty_row_spells_nothing.ensures
