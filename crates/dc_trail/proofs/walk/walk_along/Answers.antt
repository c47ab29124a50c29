use Rattle.std.proofs.Common.{refl, sym}
use Rattle.dc_resolve.specs.Ends.{outcome_shown, walk_by}
use Rattle.dc_trail.proofs.Ending.{answer_so, full_so, kept_first, may_along, trail_so}
use Rattle.dc_trail.proofs.walk.walk_along.Goals as goal

pub walk-walked-requires-clause-may : goal.walk-walked-requires-clause-may
walk-walked-requires-clause-may g c = may_along g.F.Finder _ (kept_first g.F.Finder _ refl) c.requires.may

pub returns-in-Ok-clause-answer : goal.returns-in-Ok-clause-answer
returns-in-Ok-clause-answer g c = let e = c.in-Ok.ensures in let b = e.kept.becomes in
    answer_so g.F.Finder _ _ b.same _ (c.finder-1.given.1 (sym b.same.finder)) _ (c.trail-1.given.1.1 (sym b.same.numbers)) (walk_by c.args.base c.args.path.bytes.now c.args.follow) (outcome_shown c.in-Ok.end) e.answer

pub returns-in-Ok-clause-trail : goal.returns-in-Ok-clause-trail
returns-in-Ok-clause-trail g c = let e = c.in-Ok.ensures in let b = e.kept.becomes in
    trail_so g.F.Finder _ _ b.same _ (c.finder-1.given.1 (sym b.same.finder)) _ (c.trail-1.given.1.1 (sym b.same.numbers)) (b.kept (kept_first g.F.Finder _ refl)) (outcome_shown c.in-Ok.end) e.answer

pub returns-in-Err-clause-full : goal.returns-in-Err-clause-full
returns-in-Err-clause-full g c = let h = c.in-Err.ensures.kept.stops in
    full_so g.F.Finder _ _ h.same _ (c.finder-1.given.1 (sym h.same.finder)) _ (c.trail-1.given.1.1 (sym h.same.numbers)) c.in-Err.halt h
