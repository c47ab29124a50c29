use Rattle.std.proofs.Common.{[], ◌∷◌, IsSome, refl, subst, sym}
use Rattle.dc_names.specs.Paths.{path_in}
use Rattle.dc_plain.specs.declared.call.Follow.TheVariants as follow
use Rattle.dc_plain.specs.Facts.{told_by}
use Rattle.dc_plain.specs.Places.{walk}
use Rattle.dc_plain.specs.Resolution.{resolve}
use Rattle.dc_tree_tests.proofs.resolve.walks.walks_alone_to_the_root.Goals as goal

needs_no_fact : IsSome (walk (told_by []) 4 (path_in (47 ∷ 46 ∷ 46 ∷ 47 ∷ 46 ∷ [])) follow.Dir)
unfolding resolve
needs_no_fact = refl

pub walk_alone-requires : goal.walk_alone-requires
walk_alone-requires g c = subst (λ bytes. IsSome (walk (told_by []) 4 (path_in bytes) follow.Dir)) (sym c.in_ok-path.ensures.path) needs_no_fact
