use Rattle.std.proofs.Common.{refl, ap, subst, Bool, ◌∙◌}
use Rattle.dc_plain.specs.KeysShown.{key_shown}
use Rattle.dc_table.specs.Changes.{words_of}
use Rattle.dc_rows.specs.Filling.{Redone}
use Rattle.dc_rows.proofs.Placed.{told_now, told_last, told_nothing}
use Rattle.dc_shrink.specs.Listings.{pins_of}
use Rattle.dc_rows.proofs.Lists.{pins_dropped_here}
use Rattle.dc_rows.proofs.Fills.{used_since, filled_first, filled_last, filled_none}
use Rattle.dc_rows.proofs.Stages.{rest_on}
use Rattle.dc_rows.proofs.filling.fill_given.Goals as goal

pub returns-in_default-clause-rest : goal.returns-in_default-clause-rest
returns-in_default-clause-rest c = rest_on c.args.holder.now.pass.now c.empty.new.holder.pass.now c.empty.ensures.pass _ _ _
    (told_nothing _ _ _ _ _ _ c.args.row (key_shown c.args.key.now) c.requires.given c.in_default.ensures.unused refl c.empty_row_spells_nothing.ensures _ _ _ c.empty.ensures.emptied (c.empty.ensures.shrinker ∙ c.in_default.ensures.err))

pub returns-then-rewrite-clause-rest : goal.returns-then-rewrite-clause-rest
returns-then-rewrite-clause-rest c = rest_on c.args.holder.now.pass.now c.rewrite.new.holder.pass.now c.rewrite.ensures.pass _ _ _
    (told_now _ _ _ _ _ _ c.args.row (key_shown c.args.key.now) c.requires.given c.in-Ok.ensures.unused refl _ c.args.words.now c.renew.new.self c.requires.words
    (subst (λ (b : Bool). Redone (words_of c.args.holder.now.pass.now) (words_of c.rewrite.new.holder.pass.now) c.args.row c.args.words.now b) c.if-rewrite.true c.rewrite.ensures.redone)
    (used_since c.in-Ok.ensures.unused c.in-Ok.ensures.used) (ap (λ l. l.rows) c.in-Ok.ensures.first))

pub returns-clause-rest : goal.returns-clause-rest
returns-clause-rest c = rest_on c.args.holder.now.pass.now c.rewrite.new.holder.pass.now c.rewrite.ensures.pass _ _ _
    (told_last _ _ _ _ _ _ c.args.row (key_shown c.args.key.now) c.requires.given c.in-Ok.ensures.unused refl c.empty_row_spells_nothing.ensures _ c.args.words.now c.renew.new.self c.remove.new.self _
    (subst (λ (b : Bool). Redone (words_of c.args.holder.now.pass.now) (words_of c.rewrite.new.holder.pass.now) c.args.row c.args.words.now b) c.if-rewrite.false c.rewrite.ensures.redone)
    (used_since c.in-Ok.ensures.unused c.in-Ok.ensures.used) c.remove.ensures.unused (ap (λ l. l.rows) c.remove.ensures.dropped ∙ ap (λ l. l.rows) c.in-Ok.ensures.first) c.retire.ensures)

pub returns-in_default-clause-rows : goal.returns-in_default-clause-rows
returns-in_default-clause-rows c = filled_none _ _ c.args.row c.empty.ensures.emptied (c.empty.ensures.shrinker ∙ c.in_default.ensures.err)

pub returns-in_default-clause-unpinned : goal.returns-in_default-clause-unpinned
returns-in_default-clause-unpinned c = ap (λ u. pins_of u c.args.row) (c.empty.ensures.shrinker ∙ c.in_default.ensures.err) ∙ pins_dropped_here c.args.kept.now.shrinker c.args.row

pub returns-then-rewrite-clause-rows : goal.returns-then-rewrite-clause-rows
returns-then-rewrite-clause-rows c = filled_first _ _ c.args.row _ _ c.rewrite.ensures.redone refl c.in-Ok.ensures.first (used_since c.in-Ok.ensures.unused c.in-Ok.ensures.used)

pub returns-then-rewrite-clause-unpinned : goal.returns-then-rewrite-clause-unpinned
returns-then-rewrite-clause-unpinned c = ap (λ u. pins_of u c.args.row) c.in-Ok.ensures.first ∙ pins_dropped_here c.args.kept.now.shrinker c.args.row

pub returns-clause-rows : goal.returns-clause-rows
returns-clause-rows c = filled_last _ _ c.args.row _ _ c.renew.new.self c.rewrite.ensures.redone c.retire.ensures c.in-Ok.ensures.first (used_since c.in-Ok.ensures.unused c.in-Ok.ensures.used) c.remove.ensures.dropped c.remove.ensures.unused

pub returns-clause-unpinned : goal.returns-clause-unpinned
returns-clause-unpinned c = ap (λ u. pins_of u c.args.row) c.remove.ensures.dropped ∙ pins_dropped_here c.renew.new.self c.args.row
