-- The bytes of a text up to its last slash, and where they lead.
use Rattle.std.specs.Prelude.{◌≡◌, ℕ, List, [], ◌∷◌, ◌++◌, ◌⊎◌, Some}
use Rattle.dc_names.specs.Bytes.{pieces}
use Rattle.dc_names.specs.Paths.{path_in}
use Rattle.dc_names.specs.declared.kind.Kind.{Kind}
use Rattle.dc_plain.specs.declared.call.Follow.TheVariants as follow
use Rattle.dc_plain.specs.Facts.{Teller}
use Rattle.dc_plain.specs.Places.{Where, front_of, place, walk}
use Rattle.dc_plain.specs.Places.Placed.{At}
use Rattle.dc_plain.specs.Resolution.Outcome.{Found}

-- no slash stands behind them
pub record IsBefore (front text : List ℕ) : Type 0 where
  pub piece : List ℕ
  pub is : text ≡ front ++ piece
  pub whole : pieces piece ≡ piece ∷ []

-- and one ends them, if there are any
pub record IsFront (front text : List ℕ) : Type 0 where
  pub before : IsBefore front text
  pub ends : (front ≡ []) ⊎ ((more : List ℕ) × front ≡ more ++ 47 ∷ [])

-- a text begins with these bytes
abbrev pub Begins : List ℕ → List ℕ → Type 0
Begins front text = (more : List ℕ) × (text ≡ front ++ more)

-- by whoever tells, this path leads to where all parts of a text but the last lead
abbrev pub LeadsToFront : List ℕ → List ℕ → Type 0
LeadsToFront front text = (teller : Teller) (base : ℕ) → walk teller base (path_in front) follow.Dir ≡ front_of teller base (path_in text)

-- by whoever tells that all parts of a text but the last lead to a directory, this is the text's place
abbrev pub IsPlaceIn : ℕ → List ℕ → Where → Type 0
IsPlaceIn dir text at = (teller : Teller) (base : ℕ) (kind : Kind) → front_of teller base (path_in text) ≡ Some (Found (dir, kind)) → place teller base (path_in text) ≡ Some (At at)
