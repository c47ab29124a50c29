use Rattle.std.proofs.Common.{refl, sym, subst}
use Rattle.dc_ops.specs.Plans.{Declines}
use Rattle.dc_ops.specs.Same.{same_tells}
use Rattle.dc_plain.specs.Requests.{Request, answer_of}
use Rattle.dc_plain.specs.Trees.{Tree, told_of}
use Rattle.dc_resolve.specs.Ends.{outcome_shown}
use Rattle.dc_rows.specs.Guards.{kept_by, seat_of}
use Rattle.dc_table.specs.Changes.{Recorded}
use Rattle.dc_table.specs.Passes.{view}
use Rattle.dc_trail.specs.Places.{HasTrail}
use Rattle.dc_walk.specs.Looks.{look_shown}
use Rattle.dc_cache.proofs.Alongs.{recorded_before}
use Rattle.dc_cache.proofs.Looking.{look_declines}
use Rattle.dc_cache.proofs.along.fill_along.Goals as goal

pub answer-back-requires-clause-declines : goal.answer-back-requires-clause-declines
answer-back-requires-clause-declines g c limit = let look = c.args.look in let tree : Tree = (kept_by c.walk_along-told.new.finder.guard).store in
    subst (λ (call : Request). Declines limit tree call (answer_of c.reply_of.result)) (sym c.call-call.ensures)
    (subst (λ a. Declines limit tree (look_shown look) a) (sym c.reply_of.ensures)
    (look_declines c.alters_tells_whether_trees_differ.ensures limit tree look.base look.path.bytes.now look.follow (outcome_shown c.in-Ok.end) look.path.valid (c.in-Ok.ensures.answer (told_of tree) (same_tells tree tree refl))))

pub returns-in-Ok-clause-told : goal.returns-in-Ok-clause-told
returns-in-Ok-clause-told g c = let look = c.args.look in let e = c.in-Ok.ensures in let told = c.answer-back.result.1 in let fills = e.kept in let store : Tree = (kept_by c.args.guard).store in
    let has : HasTrail store look.base look.path.bytes.now look.follow c.walk_along-told.new.trail c.in-Ok.many =
    record { few = e.trail.0; trail = sym (e.trail.1 (told_of store) (same_tells _ _ (sym fills.keeps.tree.tree))) } in record {
      recorded = recorded_before fills.keeps.only.only (subst (λ (call : Request). Recorded (view (seat_of c.walk_along-told.new.finder.guard)) (view c.answer-back.result.0.now) call (answer_of told.reply) told.at) c.call-call.ensures c.answer-back.ensures.recorded);
      has = subst (λ (t : Tree). HasTrail t look.base look.path.bytes.now look.follow c.walk_along-told.new.trail c.in-Ok.many) c.args.guard.rests.tree has;
    }
