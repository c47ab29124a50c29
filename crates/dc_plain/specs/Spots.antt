-- A name in a directory, and the place where a path's last part is to be looked up, as the program has them.
use Rattle.std.specs.Prelude.{ℕ, List}
use Rattle.dc_names.specs.Lasts.{last_shown}
use Rattle.dc_plain.specs.Trees.{Spot}
use Rattle.dc_plain.specs.Places.{Where}
use Rattle.dc_plain.specs.declared.spot.Spot as rust_spot
use Rattle.dc_plain.specs.declared.spot.Where as rust_where

abbrev pub spot_at : ℕ → List ℕ → Spot
spot_at dir name = record { dir = dir; name = name }

abbrev pub spot_shown : rust_spot.Spot → Spot
spot_shown spot = spot_at spot.dir spot.name.bytes.now

abbrev pub where_shown : rust_where.Where → Where
where_shown at = record { dir = at.dir; last = last_shown at.last; slash = at.slash }
