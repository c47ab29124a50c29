-- A finder whose store stays tells the same.
use Rattle.std.specs.Prelude.{◌≡◌}
use Rattle.std.proofs.Common.{sym, ◌∙◌, subst}
use Rattle.dc_plain.specs.Tellers.{Extends}
use Rattle.dc_plain.specs.Trees.{Tree, told_of}

pub same_tells : (t u : Tree) → u ≡ t → Extends (told_of t) (told_of u)
same_tells t u e = subst (λ v. Extends (told_of t) (told_of v)) (sym e) (record { entry = λ d label found told. told; text = λ n bytes told. told })

pub one_after : (t u v : Tree) → u ≡ t → v ≡ u → v ≡ t
one_after t u v p q = q ∙ p
