-- What each step of a resolution leaves of its finder.
use Rattle.std.specs.Prelude.{Result, IfErr, OnOk}
use Rattle.dc_resolve.specs.declared.finder.Finder.{Ghosts}

-- it became what its answers make of it, or gave up for this cause
pub record KeepsAnswering {F T S A : Type 0} (g : Ghosts F T S) (old new : F) (result : Result A S) : Type 0 where
  pub becomes : OnOk result (g.becomes old new)
  pub stops : IfErr result (g.stops old new)
