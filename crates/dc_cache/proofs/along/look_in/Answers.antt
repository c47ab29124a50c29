use Rattle.std.proofs.Common.{sym, subst}
use Rattle.dc_plain.specs.Trees.{told_of}
use Rattle.dc_ops.specs.Plans.{Declines}
use Rattle.dc_ops.specs.Same.{same_tells}
use Rattle.dc_resolve.specs.Ends.{outcome_shown}
use Rattle.dc_walk.specs.Looks.{look_shown}
use Rattle.dc_cache.proofs.Looking.{look_declines}
use Rattle.dc_cache.proofs.along.look_in.Goals as goal

pub returns-in-Ok-clause-reply : goal.returns-in-Ok-clause-reply
returns-in-Ok-clause-reply c limit = let e = c.in-Ok.ensures in let tree = c.args.store.now in
    subst (λ a. Declines limit tree (look_shown c.args.look) a) (sym c.reply_of.ensures)
    (look_declines c.alters_tells_whether_trees_differ.ensures limit tree c.args.look.base c.args.look.path.bytes.now c.args.look.follow (outcome_shown c.in-Ok.end) c.args.look.path.valid (e.answer (told_of tree) (same_tells _ _ (sym e.kept))))

pub returns-in-Ok-clause-trail : goal.returns-in-Ok-clause-trail
returns-in-Ok-clause-trail c = let e = c.in-Ok.ensures in
    record { few = e.trail.0; trail = sym (e.trail.1 (told_of c.args.store.now) (same_tells _ _ (sym e.kept))) }
