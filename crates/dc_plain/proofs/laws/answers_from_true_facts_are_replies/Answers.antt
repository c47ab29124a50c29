use Rattle.dc_plain.proofs.FactsTold.{replies-by-facts}
use Rattle.dc_plain.proofs.laws.answers_from_true_facts_are_replies.Goals as goal

pub returns : goal.returns
returns c = replies-by-facts
