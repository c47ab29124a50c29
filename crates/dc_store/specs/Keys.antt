-- The bytes that an entry is kept under: its directory's number in 8 bytes, the highest first, and its name.
-- Entries under their keys, as a list by their directories and names.
use Rattle.std.specs.Prelude.{◌≡◌, ℕ, ◌<◌, ◌^◌, List, [], ◌∷◌, ◌++◌, take, drop, map, Option, Some, None, IsTrue, if◌then◌else◌}
use Rattle.std.specs.FinMap.Entries.{is_sorted}
use Rattle.std.specs.Global.{Vec}
use Rattle.std.specs.Int.{w64, to_be_bytes, from_be_bytes}
use Rattle.std.specs.List.{AllByRecursion}
use Rattle.std.specs.Option.{option_to_list}
use Rattle.std.specs.Str.{bytes_eq}
use Rattle.dc_plain.specs.Spots.{spot_at}
use Rattle.dc_plain.specs.Trees.{Spot, spot_cmp}

unfoldable pub number_bytes : ℕ → List ℕ
number_bytes n = to_be_bytes w64 n

unfoldable pub number_in : List ℕ → ℕ
number_in bytes = from_be_bytes w64 bytes

abbrev pub key_of : Spot → List ℕ
key_of spot = number_bytes spot.dir ++ spot.name

abbrev pub spot_in : List ℕ → Spot
spot_in key = spot_at (number_in (take 8 key)) (drop 8 key)

-- the name of a key, if it is for an entry in a directory
abbrev pub name_held : ℕ → List ℕ → Option (List ℕ)
name_held d key = if bytes_eq (take 8 key) (number_bytes d) then Some (drop 8 key) else None

-- that name alone, or none
abbrev pub names_of_key : ℕ → List ℕ → List (List ℕ)
names_of_key d key = option_to_list (name_held d key)

-- the names of the keys that are for entries in a directory
abbrev pub names_held : ℕ → List (List ℕ) → List (List ℕ)
names_held d [] = []
names_held d (key ∷ keys) = option_to_list (name_held d key) ++ names_held d keys

-- the bytes are the key of a spot
pub record IsKey (key : List ℕ) : Type 0 where
  pub spelled : key_of (spot_in key) ≡ key
  pub fits : (spot_in key).dir < 2 ^ 64

abbrev pub entry_shown : Vec ℕ × ℕ → Spot × ℕ
entry_shown e = (spot_in e.0.items, e.1)

-- entries stand under keys, in the order of their spots
pub record AreKept (entries : List (Vec ℕ × ℕ)) : Type 0 where
  pub keys : AllByRecursion (λ e. IsKey e.0.items) entries
  pub sorted : IsTrue (is_sorted spot_cmp (map entry_shown entries))
