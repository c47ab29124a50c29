-- What holds of every call on every tree.
use Rattle.std.specs.Prelude.{◌≡◌, ◌≢◌, [], ◌∷◌, ◌↔◌, ◌≤◌, ◌⊎◌, length, ℕ, List, Some}
use Rattle.dc_names.specs.declared.refusal.Refusal.{Refusal}
use Rattle.dc_names.specs.declared.refusal.Refusal.TheVariants.{NotFound, NotDirectory, TooManyLinks}
use Rattle.dc_names.specs.Paths.{Path}
use Rattle.dc_names.specs.declared.limits.TheConstants.{MOST_TOUCHED}
use Rattle.dc_plain.specs.declared.call.Follow.{Follow}
use Rattle.dc_plain.specs.Facts.{Teller, Key}
use Rattle.dc_plain.specs.Tellers.{Extends}
use Rattle.dc_plain.specs.Resolution.{Outcome}
use Rattle.dc_plain.specs.Resolution.Outcome.{Refused}
use Rattle.dc_plain.specs.Places.{Placed, walk, place}
use Rattle.dc_plain.specs.Places.Placed.{Not}
use Rattle.dc_plain.specs.Trees.{Tree, fact_at}
use Rattle.dc_plain.specs.IsWellFormed.{IsWellFormed, IsWithin}
use Rattle.dc_plain.specs.Requests.{Request}
use Rattle.dc_plain.specs.Requests.Answer.{Refused as Declined}
use Rattle.dc_plain.specs.Runs.{reply_of, tree_after, tree_after_all, Touches, Alters}
use Rattle.dc_plain.specs.TouchedKeys.{keys_touched}
use Rattle.std.specs.List.{AllPairs, Contains}

-- a well-formed tree stays so, whatever request comes
abbrev pub KeepsTreesWellFormed : Type 0
KeepsTreesWellFormed = (limit : ℕ) (t : Tree) (request : Request) → IsWellFormed t → IsWellFormed (tree_after limit t request)

-- and has no more inodes than are allowed
abbrev pub KeepsWithinLimit : Type 0
KeepsWithinLimit = (limit : ℕ) (t : Tree) (request : Request) → IsWellFormed t → IsWithin limit t → IsWithin limit (tree_after limit t request)

-- each tree of a run is well formed if the first is
abbrev pub KeepsRunsWellFormed : Type 0
KeepsRunsWellFormed = (limit : ℕ) (t : Tree) (requests : List Request) → IsWellFormed t → IsWellFormed (tree_after_all limit t requests)

-- and no tree of a run has more inodes than are allowed
abbrev pub KeepsRunsWithinLimit : Type 0
KeepsRunsWithinLimit = (limit : ℕ) (t : Tree) (requests : List Request) → IsWellFormed t → IsWithin limit t → IsWithin limit (tree_after_all limit t requests)

-- a refusal leaves the tree as it was
abbrev pub RefusalsAlterNothing : Type 0
RefusalsAlterNothing = (limit : ℕ) (t : Tree) (request : Request) (number : ℕ) → reply_of limit t request ≡ Declined number → tree_after limit t request ≡ t

-- the refusals of a resolution
abbrev pub walk_refusals : List Refusal
walk_refusals = NotFound ∷ NotDirectory ∷ TooManyLinks ∷ []

-- whoever tells, a walk is refused by one of these
abbrev pub WalksRefuseByTheList : Type 0
WalksRefuseByTheList = (teller : Teller) (base : ℕ) (path : Path) (how : Follow) (refusal : Refusal) → walk teller base path how ≡ Some (Refused refusal) → Contains walk_refusals refusal

-- and so is the place of a path
abbrev pub PlacesRefuseByTheList : Type 0
PlacesRefuseByTheList = (teller : Teller) (base : ℕ) (path : Path) (refusal : Refusal) → place teller base path ≡ Some (Not refusal) → Contains walk_refusals refusal

-- an outcome stays the same if more is told
abbrev pub WalksStay : Type 0
WalksStay = (old new : Teller) → Extends old new → (base : ℕ) (path : Path) (how : Follow) (outcome : Outcome) → walk old base path how ≡ Some outcome → walk new base path how ≡ Some outcome

abbrev pub PlacesStay : Type 0
PlacesStay = (old new : Teller) → Extends old new → (base : ℕ) (path : Path) (placed : Placed) → place old base path ≡ Some placed → place new base path ≡ Some placed

-- a call alters the facts of the keys that are listed for it, and of no others
abbrev pub TouchesTheListed : Type 0
TouchesTheListed = (limit : ℕ) (t : Tree) (request : Request) → IsWellFormed t → (key : Key) → Touches limit t request key ↔ Contains (keys_touched limit t request) key

-- each key is listed, or has the same fact after the call
abbrev pub OthersStay : Type 0
OthersStay = (limit : ℕ) (t : Tree) (request : Request) → IsWellFormed t → (key : Key)
    → Contains (keys_touched limit t request) key ⊎ (fact_at (tree_after limit t request) key ≡ fact_at t key)

-- few keys are listed
abbrev pub TouchesFew : Type 0
TouchesFew = (limit : ℕ) (t : Tree) (request : Request) → length (keys_touched limit t request) ≤ MOST_TOUCHED

-- and no key twice
abbrev pub TouchesEachOnce : Type 0
TouchesEachOnce = (limit : ℕ) (t : Tree) (request : Request) → IsWellFormed t → AllPairs (λ key other. key ≢ other) (keys_touched limit t request)

-- a call alters a tree exactly if some key is listed
abbrev pub AltersWhereItTouches : Type 0
AltersWhereItTouches = (limit : ℕ) (t : Tree) (request : Request) → IsWellFormed t → Alters limit t request ↔ keys_touched limit t request ≢ []
