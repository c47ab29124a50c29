-- How a word of a line is spelled, and words one after the other.
use Rattle.std.specs.Prelude.{ℕ, List, [], ◌∷◌, ◌==◌, codes, if◌then◌else◌, map, Vec}
use Rattle.std.specs.List.{flat_map, join_with_byte}

-- the bytes of each of some words
abbrev pub bytes_of : {Z : Type 0} → List (Vec ℕ Z) → List (List ℕ)
bytes_of words = map (λ word. word.items) words

-- a space, a newline and a backslash are written \s, \n and \\, every other byte stands for itself
abbrev pub spelled_byte : ℕ → List ℕ
spelled_byte b =
    if b == 32 then codes "\\s"
    else if b == 10 then codes "\\n"
    else if b == 92 then codes "\\\\"
    else b ∷ []

-- the empty word is written \e
abbrev pub spelled : List ℕ → List ℕ
spelled [] = codes "\\e"
spelled (b ∷ bytes) = flat_map spelled_byte (b ∷ bytes)

-- words with one space between them
abbrev pub spaced : List (List ℕ) → List ℕ
spaced words = join_with_byte 32 words
