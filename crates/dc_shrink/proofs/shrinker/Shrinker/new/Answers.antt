use Rattle.std.proofs.Common.{◌≡◌, subst}
use Rattle.std.specs.NonZero.{non_zero_usize_get}
use Rattle.std.specs.Option.{MatchOption}
use Rattle.dc_shrink.proofs.Steps.{kept_new}
use Rattle.dc_shrink.proofs.Uses.{uses_none}
use Rattle.dc_shrink.proofs.shrinker.Shrinker.new.Goals as goal

pub invariant_of-result : goal.invariant_of-result
invariant_of-result c = let most = subst (λ r. MatchOption r (c.args.rows ≡ 0) (λ x. non_zero_usize_get x ≡ c.args.rows)) c.unwrap-most.ensures c.new.ensures in
    rw (c.in_ok-new.ensures, most, c.in_ok-buckets.ensures, c.new-3.ensures.empty) (kept_new c.args.rows)

pub returns-clause-unused : goal.returns-clause-unused
returns-clause-unused c = rw (c.in_ok-new.ensures, c.new-3.ensures.empty) (uses_none c.in_ok-new.field-0.cap)
