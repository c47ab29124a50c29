use Rattle.dc_rows.specs.Guards.{kept_by}
use Rattle.dc_walk.proofs.Fronts.{known_by}
use Rattle.dc_walk.proofs.placing.is_known.Goals as goal

pub returns-clause-known : goal.returns-clause-known
returns-clause-known c all = known_by c.answers_from_true_facts_are_replies.ensures (kept_by c.args.guard.now).store c.args.known c.requires.found (c.are_as_noted.ensures.told all)
