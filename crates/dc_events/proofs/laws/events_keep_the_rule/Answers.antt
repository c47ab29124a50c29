use Rattle.dc_events.proofs.Kept.{holders_keep, walkers_keep}
use Rattle.dc_events.proofs.laws.events_keep_the_rule.Goals as goal

pub returns-clause-holders : goal.returns-clause-holders
returns-clause-holders c = holders_keep record {
  opening = c.opening_tree_is_well_formed.ensures;
  runs = c.operations_keep_trees_well_formed.ensures.runs;
  stay = c.untouched_facts_stay.ensures;
}

pub returns-clause-walkers : goal.returns-clause-walkers
returns-clause-walkers c = walkers_keep record {
  read = c.words_have_the_fact_they_spell.ensures;
  replies = c.answers_from_true_facts_are_replies.ensures;
  same = c.same_tree_tells_whether_trees_are_one.ensures;
}
