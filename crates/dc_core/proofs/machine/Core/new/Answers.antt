use Rattle.std.proofs.Common.{◌*◌, sym, subst}
use Rattle.dc_core.specs.Lives.{Lives}
use Rattle.dc_core.proofs.Opening.{opening_lives}
use Rattle.dc_core.proofs.machine.Core.new.Goals as goal

pub invariant_of-result : goal.invariant_of-result
invariant_of-result c = subst Lives (sym c.in_ok-state.ensures) (opening_lives c.new_tables_have_the_rule.ensures c.args.max_inodes (c.args.buckets * 4) c.args.actors)
