use Rattle.std.proofs.Common.{Some, sym, ap, ◌∙◌}
use Rattle.dc_plain.specs.Refusals.{ended}
use Rattle.dc_plain.specs.Resolution.{settled_walk}
use Rattle.dc_resolve.specs.Ends.{outcome_shown}
use Rattle.dc_ops.specs.Same.{same_tells}
use Rattle.dc_ops.proofs.paths.walk_path.Goals as goal

pub returns-in-Found : goal.returns-in-Found
returns-in-Found g c = let e = c.in-Ok.ensures in ap (λ o. ended (settled_walk o)) (e.answer _ (same_tells _ _ (sym e.kept.becomes)) ∙ ap (λ w. Some (outcome_shown w)) c.in-Found.is)

pub returns-in-Refused : goal.returns-in-Refused
returns-in-Refused g c = let e = c.in-Ok.ensures in ap (λ o. ended (settled_walk o)) (e.answer _ (same_tells _ _ (sym e.kept.becomes)) ∙ ap (λ w. Some (outcome_shown w)) c.in-Refused.is)
