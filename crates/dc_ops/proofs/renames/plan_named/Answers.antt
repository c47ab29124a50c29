use Rattle.std.proofs.Common.{rules}
use Rattle.dc_ops.proofs.Renamed.{settles_so}
use Rattle.dc_ops.proofs.Takings.{named_move, named_swap, was_present}
use Rattle.dc_ops.proofs.renames.plan_named.Goals as goal

pub plan_move-requires-clause-held : goal.plan_move-requires-clause-held
plan_move-requires-clause-held g c = c.requires.new_held c.present.ensures.well

pub plan_swap-requires-clause-new_held : goal.plan_swap-requires-clause-new_held
plan_swap-requires-clause-new_held g c = c.requires.new_held c.present.ensures.well

pub plan_swap-requires-clause-old_held : goal.plan_swap-requires-clause-old_held
plan_swap-requires-clause-old_held g c = c.requires.old_held c.present.ensures.well

pub returns-clause-settled : goal.returns-clause-settled
returns-clause-settled g c =
    settles_so (g.S.Store.tree c.args.store.now) _ _ _ _ c.plan_move.result c.plan_move.ensures.settled (search rules) (search rules)

pub returns-then-flags-clause-taken : goal.returns-then-flags-clause-taken
returns-then-flags-clause-taken g c =
    named_swap (g.S.Store.tree c.args.store.now) c.args.from c.args.old c.args.to c.args.new c.args.flags.exchange c.plan_swap.result c.if-flags.true c.plan_swap.ensures.taken

pub returns-clause-taken : goal.returns-clause-taken
returns-clause-taken g c =
    named_move (g.S.Store.tree c.args.store.now) c.args.from c.args.old c.args.to c.args.new c.args.flags.exchange c.in_ok-moved.moved c.plan_move.result c.if-flags.false
    (was_present _ _ c.in_ok-moved.moved c.in_ok-moved.ensures.found) (search rules) c.plan_move.ensures.taken
