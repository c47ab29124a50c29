use Rattle.std.proofs.Common.{◌≤◌, refl, sym, subst}
use Rattle.dc_events.specs.Views.{View}
use Rattle.dc_cache.proofs.cache.Cache.learn.Goals as goal

pub returns-clause-come : goal.returns-clause-come
returns-clause-come g c = (λ ok. subst (λ (v : View). c.args.at ≤ v.book.seen) (sym c.learn-clock.ensures.view) c.if-clock-at.false, λ less. refl)
