-- What a call for C that tells the trail of a look-up may come to, and what is written of it.
use Rattle.std.specs.Prelude.{◌≡◌, ℕ, ℤ, List}
use Rattle.dc_hold.specs.Allowed.{How}
use Rattle.dc_hold.specs.Trails.{Along, FastAlong, MayFindAlong, MayLookAlong, tells_along, tells_fast_along}
use Rattle.dc_hold.specs.declared.told.Found.{Found}
use Rattle.dc_hold.specs.declared.told.Told.{Told}
use Rattle.dc_c.specs.Answering.{Answers, Shows}
use Rattle.dc_c.specs.declared.handle.Handle.{Handle}

-- what was found, and the caller's places
abbrev pub Trailed : Type 0
Trailed = Found × List ℕ

-- the places are as the cache left them
pub record ShowsTrail {A : Type 0} (tells : A → Told) (tried : A × List ℕ) (number : ℤ) (written : Trailed) : Type 0 where
  pub found : Shows (tells tried.0) number written.0
  pub trail : written.1 ≡ tried.1

abbrev pub LooksAlong : ℕ → List ℕ → How → Handle → Handle → ℤ → Trailed → Trailed → Type 0
LooksAlong base path how old new number before = Answers (Along × List ℕ) Trailed (MayLookAlong base path how before.1) (ShowsTrail tells_along) old new number before

abbrev pub FindsAlong : ℕ → List ℕ → How → Handle → Handle → ℤ → Trailed → Trailed → Type 0
FindsAlong base path how old new number before = Answers (FastAlong × List ℕ) Trailed (MayFindAlong base path how before.1) (ShowsTrail tells_fast_along) old new number before
