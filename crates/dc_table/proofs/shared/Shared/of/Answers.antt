use Rattle.std.proofs.Common.{rules, ◌∙◌, sym}
use Rattle.dc_table.proofs.Ending.{opening_kept, new_in_box, zeros_open}
use Rattle.dc_table.proofs.shared.Shared.of.Goals as goal

pub new-requires-3 : goal.new-requires-3
new-requires-3 c = let n = new_in_box c.in_ok-guarded.guarded _ _ _ c.in_ok-value.ensures c.in_ok-guarded.ensures.ok in
    opening_kept c.new_tables_have_the_rule.ensures c.empty_row_spells_nothing.ensures _ _ c.in_ok-guarded.guarded _
    (c.as_slice.ensures.value ∙ (c.in_ok-words.ensures.items_if_clones_equal (λ y e. e) ∙ zeros_open c.args.limits.now.rows _ (search rules))) (search rules)
    n.tree n.clock n.same_limit (n.slots ∙ sym c.requires.rows) n.free (n.listed ∙ sym c.requires.rows) n.unused
