-- The hash of a number and some bytes: FNV-1a of 64 bits.
use Rattle.std.specs.Prelude.{ℕ, List, ◌++◌, ◌*◌, ◌%◌, ◌^◌}
use Rattle.std.specs.Int.{w64, to_le_bytes}
use Rattle.std.specs.Int.Bits.{bit_xor}
use Rattle.std.specs.List.{fold}

abbrev pub hash_step : ℕ → ℕ → ℕ
hash_step h b = bit_xor h b * 1099511628211 % 2 ^ 64

abbrev pub hash_from : ℕ → List ℕ → ℕ
hash_from h bytes = fold hash_step h bytes

-- the number's 8 bytes, the lowest first, and then the others
unfoldable pub hash_of : ℕ → List ℕ → ℕ
hash_of number bytes = hash_from 14695981039346656037 (to_le_bytes w64 number ++ bytes)
