use Rattle.dc_plain.proofs.FactsKept.{untouched-stay}
use Rattle.dc_plain.proofs.laws.untouched_facts_stay.Goals as goal

pub returns : goal.returns
returns c = untouched-stay c.parts_are_names_or_dots.ensures
