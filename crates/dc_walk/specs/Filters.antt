-- Filters of keys by their hashes.
use Rattle.std.specs.Prelude.{◌≡◌, ℕ, ◌%◌, true, false, get_or}
use Rattle.dc_walk.specs.declared.filter.TheConstants.{FILTER_PLACES}
use Rattle.dc_walk.specs.declared.filter.KeyFilter.{KeyFilter}

-- a filter may hold the keys with a hash, whose place is set
abbrev pub MayHold : KeyFilter → ℕ → Type 0
MayHold filter hash = get_or filter.places (hash % FILTER_PLACES) false ≡ true
