-- What a call for C that tells where a directory is may come to, and what is written of it.
use Rattle.std.specs.Prelude.{◌≡◌, ℕ, ℤ, ◌++◌, take, drop, List}
use Rattle.dc_names.specs.declared.limits.TheConstants.{PATH_MAX}
use Rattle.dc_hold.specs.Whereabouts.{Located, MayLocate, path_over, tells_where}
use Rattle.dc_hold.specs.declared.status.Status.TheVariants as statuses
use Rattle.dc_hold.specs.declared.told.Found.{Found}
use Rattle.dc_c.specs.Answering.{Answers, Refuses, Shows}
use Rattle.dc_c.specs.declared.handle.Handle.{Handle}

-- the directory's path is written from the front on, and what is behind the room for a path stays
pub record ShowsWhere (number : ℕ) (behind : List ℕ) (told : Located × List ℕ) (answer : ℤ) (written : Found × List ℕ) : Type 0 where
  pub found : Shows (tells_where number told.0) answer written.0
  pub path : written.1 ≡ path_over told.1 told.0 ++ behind

abbrev pub TellsWhere : ℕ → Handle → Handle → ℤ → Found × List ℕ → Found × List ℕ → Type 0
TellsWhere number old new answer before =
    Answers (Located × List ℕ) (Found × List ℕ) (MayLocate number (take PATH_MAX before.1)) (ShowsWhere number (drop PATH_MAX before.1)) old new answer before

-- there is no room for each path
abbrev pub RefusesRoom : Handle → Handle → ℤ → Found × List ℕ → Found × List ℕ → Type 0
RefusesRoom = Refuses (Found × List ℕ) statuses.BadArgument
