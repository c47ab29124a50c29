use Rattle.std.proofs.Common.{◌<◌, refl, subst, sym}
use Rattle.dc_shrink.proofs.Entries.{entries_removed}
use Rattle.dc_shrink.proofs.Steps.{buckets_promoted, renewed, unlisted}
use Rattle.dc_shrink.proofs.Uses.{used_dropped, used_renewed}
use Rattle.dc_shrink.specs.Listings.{Listing}
use Rattle.dc_shrink.proofs.shrinker.Shrinker.renew.Goals as goal

pub invariant_of-self : goal.invariant_of-self
invariant_of-self c = let both = unlisted c.self.inside.listed c.put.new.self c.self.invariant c.args.chosen (entries_removed c.self.inside.pins.entries c.remove.new.self.entries c.args.chosen c.remove.ensures.updates.0) c.in_default.ensures.err c.in_default.ensures.succeeds in both.0

pub returns-in_default-clause-err : goal.returns-in_default-clause-err
returns-in_default-clause-err c = let both = unlisted c.self.inside.listed c.put.new.self c.self.invariant c.args.chosen (entries_removed c.self.inside.pins.entries c.remove.new.self.entries c.args.chosen c.remove.ensures.updates.0) c.in_default.ensures.err c.in_default.ensures.succeeds in rw (← c.self.view_is) both.1

pub invariant_of-self-2 : goal.invariant_of-self-2
invariant_of-self-2 c = let both = renewed c.self.inside.listed c.put.new.self c.self.invariant c.args.chosen (entries_removed c.self.inside.pins.entries c.remove.new.self.entries c.args.chosen c.remove.ensures.updates.0) tt (subst (λ (s : Listing). c.args.chosen < s.rows) (sym c.self.view_is) c.requires) c.in-Ok.ensures.entries (buckets_promoted c.self.inside.buckets c.args.chosen c.deref_mut.result.now c.promote.new.buckets c.promote.ensures c.deref_mut.ensures.value) in both.0

pub returns-clause-first : goal.returns-clause-first
returns-clause-first c = let both = renewed c.self.inside.listed c.put.new.self c.self.invariant c.args.chosen (entries_removed c.self.inside.pins.entries c.remove.new.self.entries c.args.chosen c.remove.ensures.updates.0) tt (subst (λ (s : Listing). c.args.chosen < s.rows) (sym c.self.view_is) c.requires) c.in-Ok.ensures.entries (buckets_promoted c.self.inside.buckets c.args.chosen c.deref_mut.result.now c.promote.new.buckets c.promote.ensures c.deref_mut.ensures.value) in rw (← c.self.view_is) both.1

pub returns-in_default-clause-unused : goal.returns-in_default-clause-unused
returns-in_default-clause-unused c = used_dropped c.args.self.now c.args.chosen refl

pub returns-clause-used : goal.returns-clause-used
returns-clause-used c = used_renewed c.args.self.now c.args.chosen (returns-clause-first c)

pub returns-clause-unused : goal.returns-clause-unused
returns-clause-unused c = used_dropped c.args.self.now c.args.chosen refl
