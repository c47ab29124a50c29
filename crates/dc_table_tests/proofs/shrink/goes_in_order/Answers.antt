use Rattle.std.proofs.Common.{ap, not, ◌∙◌}
use Rattle.dc_table_tests.proofs.shrink.goes_in_order.Goals as goal

pub add_again-requires-2-clause-unused : goal.add_again-requires-2-clause-unused
add_again-requires-2-clause-unused c = ap not (c.in_ok-add_again.ensures.used.others 1 (λ e. cc) ∙ c.in_ok-rows.ensures.unused 1)

pub add_again-requires-3-clause-unused : goal.add_again-requires-3-clause-unused
add_again-requires-3-clause-unused c = ap not (c.in_ok-add_again-2.ensures.used.others 2 (λ e. cc) ∙ c.in_ok-add_again.ensures.used.others 2 (λ e. cc) ∙ c.in_ok-rows.ensures.unused 2)
