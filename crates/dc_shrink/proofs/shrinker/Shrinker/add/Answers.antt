use Rattle.std.proofs.Common.{◌≡◌, sym, refl, subst, not, true, ◌<◌}
use Rattle.dc_shrink.specs.Listings.{Listing, is_used}
use Rattle.dc_shrink.proofs.Uses.{used_added}
use Rattle.dc_shrink.proofs.Steps.{buckets_promoted, after_put, unused, kept_added}
use Rattle.dc_shrink.proofs.shrinker.Shrinker.add.Goals as goal

pub invariant_of-self-2 : goal.invariant_of-self-2
invariant_of-self-2 c = let free = unused c.self.invariant c.args.row (subst (λ (s : Listing). not (is_used s c.args.row) ≡ true) (sym c.self.view_is) c.requires.unused) in
    let below = subst (λ (s : Listing). c.args.row < s.rows) (sym c.self.view_is) c.requires.within in
    let e = after_put c.self.inside.listed c.put.new.self c.self.invariant.0 c.args.row tt free.0 below c.in_ok-put.ensures.entries in
    rw (e.0, e.1, buckets_promoted c.self.inside.buckets c.args.row c.deref_mut.result.now c.promote.new.buckets c.promote.ensures c.deref_mut.ensures.value) (kept_added c.self.invariant c.args.row free below)

pub returns-clause-first : goal.returns-clause-first
returns-clause-first c = let free = unused c.self.invariant c.args.row (subst (λ (s : Listing). not (is_used s c.args.row) ≡ true) (sym c.self.view_is) c.requires.unused) in
    let below = subst (λ (s : Listing). c.args.row < s.rows) (sym c.self.view_is) c.requires.within in
    let e = after_put c.self.inside.listed c.put.new.self c.self.invariant.0 c.args.row tt free.0 below c.in_ok-put.ensures.entries in
    rw (e.0, e.1, ← c.self.view_is) refl

pub returns-clause-used : goal.returns-clause-used
returns-clause-used c = used_added c.args.self.now c.args.row (returns-clause-first c)
