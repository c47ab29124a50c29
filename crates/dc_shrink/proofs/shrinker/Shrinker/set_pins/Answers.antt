use Rattle.std.proofs.Common.{◌≡◌, sym, ◌∙◌, refl, subst, true}
use Rattle.dc_shrink.specs.Listings.{Listing, is_used}
use Rattle.dc_shrink.proofs.Entries.{entries_inserted, get_entries}
use Rattle.dc_shrink.proofs.Pinned.{on_err}
use Rattle.dc_shrink.proofs.Steps.{after_pop, kept_pinned, pins_none}
use Rattle.dc_shrink.proofs.Uses.{used_pinned}
use Rattle.dc_shrink.proofs.shrinker.Shrinker.set_pins.Goals as goal

pub invariant_of-self-2 : goal.invariant_of-self-2
invariant_of-self-2 c = let e = after_pop c.self.inside.listed c.pop.new.self c.self.invariant.0 c.args.row c.pop.ensures.entries in
    let below = c.self.invariant.0.within c.args.row (subst (λ (s : Listing). is_used s c.args.row ≡ true) (sym c.self.view_is) c.requires.used) in
    rw (e.0, e.1, entries_inserted c.self.inside.pins.entries c.insert.new.self.entries c.args.row c.args.pins c.in_ok-insert.ensures.updates.0)
    (kept_pinned c.self.invariant c.args.row c.args.pins below c.requires.limits.0 c.requires.limits.1)

pub returns-in_err-insert-clause-first : goal.returns-in_err-insert-clause-first
returns-in_err-insert-clause-first c = on_err c.from_residual.result (rw (← c.self.view_is) (pins_none _ c.args.row (get_entries c.self.inside.pins.entries c.args.row ∙ c.in_err-insert.ensures.absent)))

pub returns-clause-set : goal.returns-clause-set
returns-clause-set c = let e = after_pop c.self.inside.listed c.pop.new.self c.self.invariant.0 c.args.row c.pop.ensures.entries in
    rw (e.0, e.1, entries_inserted c.self.inside.pins.entries c.insert.new.self.entries c.args.row c.args.pins c.in_ok-insert.ensures.updates.0, ← c.self.view_is) refl

pub returns-clause-same_use : goal.returns-clause-same_use
returns-clause-same_use c = used_pinned c.args.self.now c.args.row c.args.pins c.requires.used (returns-clause-set c)
