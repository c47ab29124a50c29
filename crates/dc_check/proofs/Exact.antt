-- The stamps are legal exactly if no actor's points fall and the stamps by their points pass.
use Rattle.std.proofs.Common.{ℕ, List, sym, ◌∙◌}
use Rattle.dc_plain.specs.LivingLaws.{SameTreeDecides}
use Rattle.dc_plain.specs.Legal.{Stamp, IsLegal}
use Rattle.dc_check.specs.Judging.{RisesByActor, IsByPoint, Passes, opening}
use Rattle.dc_check.proofs.Sound.{sound}
use Rattle.dc_check.proofs.Complete.{complete}
use Rattle.dc_check.proofs.Points.{legal_rises, sorted_keeps}

pub legal_from_passing : SameTreeDecides → (limit : ℕ) (stamps sorted : List Stamp) → RisesByActor stamps → IsByPoint stamps sorted → Passes sorted (opening limit) → IsLegal limit stamps
legal_from_passing decides limit stamps sorted up by_point passes =
    let run = sound decides sorted (opening limit) tt passes in
    record { order = run.order; kept = λ n. run.kept n ∙ sorted_keeps stamps sorted by_point up n; run = run.run }

pub passing_from_legal : SameTreeDecides → (limit : ℕ) (stamps sorted : List Stamp) → IsByPoint stamps sorted → IsLegal limit stamps → Passes sorted (opening limit)
passing_from_legal decides limit stamps sorted by_point is =
    let keeps = sorted_keeps stamps sorted by_point (legal_rises limit stamps is) in
    complete decides sorted (opening limit) tt by_point.rises (record { order = is.order; kept = λ n. is.kept n ∙ sym (keeps n); run = is.run })
