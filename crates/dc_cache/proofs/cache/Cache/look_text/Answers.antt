use Rattle.std.proofs.Common.{ℕ, List, subst}
use Rattle.dc_cache.specs.Passes.{buckets_of, view}
use Rattle.dc_walk.specs.Fasts.{GaveUp}
use Rattle.dc_walk.specs.Looks.{outcome_by}
use Rattle.dc_cache.proofs.cache.Cache.look_text.Goals as goal

pub returns-in-Again-clause-keeps : goal.returns-in-Again-clause-keeps
returns-in-Again-clause-keeps g c = subst (λ (text : List ℕ). GaveUp (outcome_by c.args.base text c.args.follow) (buckets_of c.args.pass.now) (view c.args.pass.now) (view c.look_fast.new.pass) c.in-Again.why) c.in-Ok.ensures.path c.in-Again.ensures.keeps
