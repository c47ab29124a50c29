use Rattle.std.proofs.Common.{◌≡◌, true, sym, subst, refl}
use Rattle.dc_shrink.specs.Listings.{is_in}
use Rattle.dc_shrink.proofs.Steps.{buckets_promoted, after_promote, kept_touched}
use Rattle.dc_shrink.proofs.Uses.{used_touched}
use Rattle.dc_shrink.proofs.shrinker.Shrinker.touch.Goals as goal

pub invariant_of-self : goal.invariant_of-self
invariant_of-self c = let here = subst (λ s. is_in s.listed c.args.row ≡ true) (sym c.self.view_is) c.requires in
    let e = after_promote c.self.inside.listed c.promote.new.self c.self.invariant.0 c.args.row here c.promote.ensures.entries in
    rw (e.0, e.1, buckets_promoted c.self.inside.buckets c.args.row c.deref_mut.result.now c.promote-2.new.buckets c.promote-2.ensures c.deref_mut.ensures.value) (kept_touched c.self.invariant c.args.row here)

pub returns-clause-touched : goal.returns-clause-touched
returns-clause-touched c = let here = subst (λ s. is_in s.listed c.args.row ≡ true) (sym c.self.view_is) c.requires in
    let e = after_promote c.self.inside.listed c.promote.new.self c.self.invariant.0 c.args.row here c.promote.ensures.entries in
    rw (e.0, e.1, ← c.self.view_is) refl

pub returns-clause-same_use : goal.returns-clause-same_use
returns-clause-same_use c = used_touched c.args.self.now c.args.row c.requires (returns-clause-touched c)
