-- Bytes in a word of 64 bits, the first lowest.
use Rattle.std.specs.Prelude.{ℕ, List, ◌≡◌, ◌<◌, ◌≤◌, ◌-◌, ◌++◌, length, replicate, slice_index}
use Rattle.std.specs.Int.{w64, to_le_bytes, from_le_bytes}

abbrev pub AreBytes : List ℕ → Type 0
AreBytes bytes = (i : ℕ) → slice_index bytes i < 256

-- at most 8 bytes with zeros after them
abbrev pub padded : List ℕ → List ℕ
padded bytes = bytes ++ replicate (8 - length bytes) 0

-- of at most 8 bytes the sum of each one times 256 to its place
unfoldable pub word_of : List ℕ → ℕ
word_of bytes = from_le_bytes w64 bytes

-- the 8 bytes of a word
unfoldable pub bytes_in : ℕ → List ℕ
bytes_in word = to_le_bytes w64 word

-- the result is what was packed in the word
abbrev pub GivesBack : ℕ → List ℕ → Type 0
GivesBack word result = (bytes : List ℕ) → length bytes ≤ 8 → AreBytes bytes → word ≡ word_of bytes → result ≡ padded bytes
