-- The first bytes of a name as one number, in the order of the names.
use Rattle.std.specs.Prelude.{◌≡◌, ℕ, List, ◌++◌, take, replicate}
use Rattle.dc_store.specs.Keys.{number_bytes}

-- the first eight bytes of a name, with zeros behind a shorter one
abbrev pub first_bytes : List ℕ → List ℕ
first_bytes name = take 8 (name ++ replicate 8 0)

-- a number whose eight bytes, the highest first, are the first of a name
abbrev pub IsFront : ℕ → List ℕ → Type 0
IsFront front name = number_bytes front ≡ first_bytes name
