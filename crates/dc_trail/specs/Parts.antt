-- What someone tells of some directories alone, and which directories an outcome needs in turn.
use Rattle.std.specs.Prelude.{◌≡◌, ℕ, List, [], ◌∷◌, ◌++◌, false, Option, None, if◌then◌else◌}
use Rattle.dc_plain.specs.Facts.{Label, Teller}
use Rattle.dc_plain.specs.Tellers.{Extends}
use Rattle.dc_trail.specs.Questions.{is_among}

-- what is told of the names and the dot-dot of these directories, and of all links
abbrev pub within : List ℕ → Teller → Teller
within dirs teller = record { entry = λ d label. if is_among dirs d then teller.entry d label else None; text = teller.text }

-- nothing is told of a directory
abbrev pub IsSilentOf : Teller → ℕ → Type 0
IsSilentOf teller d = (label : Label) → teller.entry d label ≡ None

-- whoever tells this, and whatever else, but nothing of this directory, has no outcome
abbrev pub NeedsDir : {A : Type 0} → (Teller → Option A) → Teller → ℕ → Type 0
NeedsDir outcome said d = (other : Teller) → Extends said other → IsSilentOf other d → outcome other ≡ None

-- an outcome needs these directories in turn, each a new one: once those that were seen are told of, and those before it
abbrev pub NeedsInTurn : {A : Type 0} → (Teller → Option A) → Teller → List ℕ → List ℕ → Type 0
NeedsInTurn outcome teller seen [] = Unit {0}
NeedsInTurn outcome teller seen (d ∷ dirs) = (is_among seen d ≡ false) × NeedsDir outcome (within seen teller) d × NeedsInTurn outcome teller (seen ++ d ∷ []) dirs
