use Rattle.std.proofs.Common.{sym, ◌∙◌}
use Rattle.dc_ops.proofs.Parents.{held_by, held_by_none}
use Rattle.dc_ops.proofs.renames.is_beneath.Goals as goal

pub returns-in_default : goal.returns-in_default
returns-in_default g c =
    let t = g.S.Store.tree c.args.store.now in
    let none = held_by_none c.names_lead_to_the_living.ensures.holders t c.up.at c.live-left.ensures.well c.up.invariant.held c.if-at-eq1.false c.in_default.ensures.parent in
    sym (c.directories_have_one_holder.ensures.unheld c.up.left t c.up.at c.args.number c.up-test.true c.if-at-number.false c.if-at-eq1.false none) ∙ c.up.invariant.same

pub up-preserved : goal.up-preserved
up-preserved g c =
    let t = g.S.Store.tree c.args.store.now in
    let held = held_by t c.up.at c.in-Some.up c.up.invariant.held c.if-at-eq1.false c.in-Some.ensures.parent in
    record {
      held = c.in-Some.ensures.directory;
      same = c.directories_have_one_holder.ensures.up c.up.left t c.up.at c.args.number c.in-Some.up c.up-test.true c.if-at-number.false c.if-at-eq1.false held ∙ c.up.invariant.same;
    }
