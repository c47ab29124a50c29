use Rattle.std.proofs.Common.{refl}
use Rattle.dc_shrink.proofs.Entries.{entries_removed}
use Rattle.dc_shrink.proofs.Steps.{after_pop, kept_dropped}
use Rattle.dc_shrink.proofs.Uses.{used_dropped}
use Rattle.dc_shrink.proofs.shrinker.Shrinker.remove.Goals as goal

pub invariant_of-self : goal.invariant_of-self
invariant_of-self c = let e = after_pop c.self.inside.listed c.pop.new.self c.self.invariant.0 c.args.row c.pop.ensures.entries in
    rw (e.0, e.1, entries_removed c.self.inside.pins.entries c.remove.new.self.entries c.args.row c.remove.ensures.updates.0) (kept_dropped c.self.invariant c.args.row)

pub returns-clause-dropped : goal.returns-clause-dropped
returns-clause-dropped c = let e = after_pop c.self.inside.listed c.pop.new.self c.self.invariant.0 c.args.row c.pop.ensures.entries in
    rw (e.0, e.1, entries_removed c.self.inside.pins.entries c.remove.new.self.entries c.args.row c.remove.ensures.updates.0, ← c.self.view_is) refl

pub returns-clause-unused : goal.returns-clause-unused
returns-clause-unused c = used_dropped c.args.self.now c.args.row (returns-clause-dropped c)
