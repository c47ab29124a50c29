-- The points of each actor rise from those that were met.
use Rattle.std.proofs.Common.{ℕ, List}
use Rattle.dc_plain.specs.Legal.{Stamp, of_actor}
use Rattle.dc_check.specs.Judging.{Rises}

abbrev pub RiseFrom : (ℕ → ℕ) → List Stamp → Type 0
RiseFrom floors stamps = (n : ℕ) → Rises (floors n) (of_actor n stamps)
