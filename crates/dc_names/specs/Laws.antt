-- What holds of all texts, and of those without a fault.
use Rattle.std.specs.Prelude.{◌≡◌, ◌≤◌, ℕ, List, None, IsTrue, false, length, nat_lt}
use Rattle.std.specs.List.{AllByRecursion, list_any}
use Rattle.dc_names.specs.Bytes.{is_name, pieces}
use Rattle.dc_names.specs.Paths.{Part, fault_of, parts_of}
use Rattle.dc_names.specs.Paths.Part.{Name, Dot, DotDot}

-- a part that is no dot is a name
abbrev pub IsNameOrDots : Part → Type 0
IsNameOrDots (Name name) = IsTrue (is_name name)
IsNameOrDots Dot = Unit {0}
IsNameOrDots DotDot = Unit {0}

abbrev pub PartsAreNamesOrDots : Type 0
PartsAreNamesOrDots = (text : List ℕ) → fault_of text ≡ None → AllByRecursion IsNameOrDots (parts_of text)

-- no piece of a text is longer than the text
abbrev pub NoPieceIsLonger : Type 0
NoPieceIsLonger = (most : ℕ) (text : List ℕ) → length text ≤ most → list_any (λ piece. nat_lt most (length piece)) (pieces text) ≡ false
