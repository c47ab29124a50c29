-- What a name in a directory leads to.
use Rattle.std.specs.Prelude.{ℕ, Option}
use Rattle.dc_names.specs.declared.name.Name as rust_name
use Rattle.dc_plain.specs.Spots.{spot_at}
use Rattle.dc_plain.specs.Trees.{Tree, entry_number}

-- its number, if an entry stands there
abbrev pub number_at : Tree → ℕ → rust_name.Name → Option ℕ
number_at t dir name = entry_number t (spot_at dir name.bytes.now)
