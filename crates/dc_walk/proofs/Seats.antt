-- A pass after steps that leave it the same pass.
use Rattle.std.proofs.Common.{ℕ, ◌<◌, refl, ap, sym, ◌∙◌, subst}
use Rattle.dc_table.specs.Passes.{Pass, share, Fits, IsSamePass, IsWalkerAt, StaysOut}
use Rattle.dc_table.specs.Shares.{HasNotTried, Known}
use Rattle.dc_walk.specs.Becomings.{untried_again}
use Rattle.dc_table.specs.declared.shared.Shared.{Shared}

pub same_pass : (p : Pass) → IsSamePass p p
same_pass p = record { table = refl; id = refl; same_share = refl }

pub same_passes : {p q r : Pass} → IsSamePass p q → IsSamePass q r → IsSamePass p r
same_passes a b = record { table = b.table ∙ a.table; id = b.id ∙ a.id; same_share = b.same_share ∙ a.same_share }

pub untried_still : {k : Known} → HasNotTried k k
untried_still = record { tries = refl; got = refl; left = refl; past = refl }

-- a pass that stays out of the lock, and goes on so
pub stays_again : {p q r : Pass} → StaysOut p q → StaysOut q r → StaysOut p r
stays_again a b = record { same = same_passes a.same b.same; idle = b.idle; untried = untried_again a.untried b.untried }

pub fits_still : {t : Shared} {p q : Pass} → Fits t p → IsSamePass p q → Fits t q
fits_still f s = record { table = s.table ∙ f.table; rows = ap (λ x. x.rows) s.same_share ∙ f.rows; limit = ap (λ x. x.limit) s.same_share ∙ f.limit }

pub row_still : {p q : Pass} {row : ℕ} → row < (share p).rows → IsSamePass p q → row < (share q).rows
row_still {row = row} l s = subst (λ x. row < x.rows) (sym s.same_share) l

-- a pass that stayed out of the lock may look at the row again
pub walker_still : {t : Shared} {p q : Pass} {row : ℕ} → Fits t p → row < (share p).rows → StaysOut p q → IsWalkerAt t q row
walker_still f l s = record { fits = fits_still f s.same; idle = s.idle; inside = row_still l s.same }
