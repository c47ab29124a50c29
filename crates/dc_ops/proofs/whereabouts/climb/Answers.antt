use Rattle.std.proofs.Common.{◌≡◌, true, false, sym, subst, ◌∙◌, ℕ, length, rules}
use Rattle.dc_plain.specs.Spots.{spot_at}
use Rattle.dc_names.specs.declared.limits.TheConstants.{PATH_MAX}
use Rattle.dc_ops.specs.Whereabouts.{IsSoFar}
use Rattle.dc_ops.proofs.Climbing.{begun, climbed, if_none, too_long}
use Rattle.dc_ops.proofs.whereabouts.climb.Goals as goal

pub climb-init : goal.climb-init
climb-init c =
    let whole : length c.args.buffer.now ≡ PATH_MAX = search rules in
    begun c.args.store.now c.args.number c.args.buffer.now c.requires whole

pub unreachable-requires : goal.unreachable-requires
unreachable-requires c = let clash : true ≡ false = sym c.climb.invariant.live ∙ c.in_default.ensures.none c.climb-test.true in cc

pub returns-in_err-from-clause-long : goal.returns-in_err-from-clause-long
returns-in_err-from-clause-long c = let now = c.climb.invariant in let own = c.in-Some.ensures in
    if_none _ (too_long c.args.store.now c.args.number c.climb.at c.climb.start c.climb.buffer now c.climb-test.true c.in-Some.up c.in-Some.name.now own.found (own.alone now.live) c.in_err-from.ensures.full)

pub climb-preserved : goal.climb-preserved
climb-preserved c = let now = c.climb.invariant in let own = c.in-Some.ensures in let put = c.in_ok-from.ensures in
    let held = c.names_lead_to_the_living.ensures.names c.args.store.now (spot_at c.in-Some.up c.in-Some.name.now) c.climb.at own.well own.found in
    climbed c.args.store.now c.args.number c.climb.at c.climb.start c.climb.buffer now c.climb-test.true c.in-Some.up c.in-Some.name.now own.found (own.alone now.live) held.held own.named _ _ put.put put.before put.same

pub returns-clause-led : goal.returns-clause-led
returns-clause-led c = subst (λ (d : ℕ). IsSoFar c.args.store.now c.args.number d c.climb.start c.climb.buffer) c.climb-test.false c.climb.invariant.so_far
