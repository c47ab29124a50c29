use Rattle.std.proofs.Common.{ap, subst, false, ◌∙◌}
use Rattle.dc_shrink.specs.Uses.{SetsUse}
use Rattle.dc_rows.proofs.Placed.{keyed_within, placed_empty}
use Rattle.dc_rows.proofs.Stages.{rest_on}
use Rattle.dc_table_tests.proofs.walk.busy.evict_row.Goals as goal

pub returns-clause-rest : goal.returns-clause-rest
returns-clause-rest c = let k = c.args.kept.now in rest_on c.args.holder.now.pass.now c.empty-met.new.holder.pass.now c.empty-met.ensures.pass _ _ _
    (placed_empty _ _ _ k.index k.shrinker c.requires.rest c.args.row (keyed_within k.index c.args.row c.requires.key) c.empty_row_spells_nothing.ensures _ _ _ c.empty-met.ensures.emptied
    (subst (λ u. SetsUse c.args.row false u c.remove.new.self) c.empty-met.ensures.shrinker c.remove.ensures.unused) (ap (λ l. l.rows) c.remove.ensures.dropped ∙ ap (λ l. l.rows) c.empty-met.ensures.shrinker))
