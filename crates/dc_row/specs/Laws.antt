-- What holds of the words of all rows.
use Rattle.std.specs.Prelude.{◌≡◌, ℕ, List, ◌∷◌, drop, Option}
use Rattle.dc_plain.specs.Facts.{Fact}
use Rattle.dc_row.specs.Spelling.{Spells}

-- the words of a row after its sequence count are always the same
abbrev pub HasOneSpelling : Type 0
HasOneSpelling = (fact : Option Fact) (v w : List ℕ) → Spells v fact → Spells w fact → drop 1 v ≡ drop 1 w

-- with any sequence count the words spell the same
abbrev pub CountsTellNothing : Type 0
CountsTellNothing = (m n : ℕ) (words : List ℕ) (fact : Option Fact) → Spells (m ∷ words) fact → Spells (n ∷ words) fact
