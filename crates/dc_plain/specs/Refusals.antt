-- The first refusal of several tests, and where a path leads on a tree.
use Rattle.std.specs.Prelude.{ℕ, List, Bool, true, false, ◌==◌, ◌||◌, nat_le, length, Option, Some, None, Result, Ok, Err}
use Rattle.dc_names.specs.declared.refusal.Refusal.{Refusal}
use Rattle.dc_names.specs.declared.refusal.Refusal.TheVariants.{NotFound}
use Rattle.dc_names.specs.declared.limits.TheConstants.{NUMBER_LIMIT}
use Rattle.dc_names.specs.Paths.{Path, path_of}
use Rattle.dc_names.specs.Refusals.{refusal_of}
use Rattle.dc_plain.specs.declared.call.Follow.{Follow}
use Rattle.dc_plain.specs.Facts.{Target}
use Rattle.dc_plain.specs.Resolution.{Outcome, settled_walk}
use Rattle.dc_plain.specs.Resolution.Outcome.{Found, Refused}
use Rattle.dc_plain.specs.Places.{Where, Placed, walk, place}
use Rattle.dc_plain.specs.Places.Placed.{At, Not}
use Rattle.dc_plain.specs.Trees.{Tree, told_of}

-- one step after another, up to the first refusal
infixl 10 ◌>>=◌
abbrev pub ◌>>=◌ : {A B : Type 0} → Result A Refusal → (A → Result B Refusal) → Result B Refusal
(Ok a) >>= next = next a
(Err refusal) >>= next = Err refusal

-- this refusal if the test holds
abbrev pub refuse : Bool → Refusal → Result Bool Refusal
refuse true refusal = Err refusal
refuse false refusal = Ok true

-- the path of a text, or the refusal of its first fault
abbrev pub path_or_fault : List ℕ → Result Path Refusal
path_or_fault text = elim (path_of text) [ Ok path ↦ Ok path | Err fault ↦ Err (refusal_of fault) ]

-- what a resolution found, or its refusal
abbrev pub ended : Outcome → Result Target Refusal
ended (Found place) = Ok place
ended (Refused refusal) = Err refusal

-- where a text leads, or its refusal
abbrev pub walk_on : Tree → ℕ → List ℕ → Follow → Result Target Refusal
walk_on t base text how = path_or_fault text >>= λ path. ended (settled_walk (walk (told_of t) base path how))

-- where the last part of a path is to be looked up. A tree answers every question, so `None` doesn't come
-- if it is well formed
abbrev pub where_of : Option Placed → Result Where Refusal
where_of None = Err NotFound
where_of (Some (At at)) = Ok at
where_of (Some (Not refusal)) = Err refusal

abbrev pub place_on : Tree → ℕ → Path → Result Where Refusal
place_on t base path = where_of (place (told_of t) base path)

-- where the last part of a text is to be looked up, or its refusal
abbrev pub where_on : Tree → ℕ → List ℕ → Result Where Refusal
where_on t base text = do
  path ← path_or_fault text
  place_on t base path

-- what is there, or else this refusal
abbrev pub present : Refusal → Option Target → Result Target Refusal
present refusal None = Err refusal
present refusal (Some place) = Ok place

-- whether no further inode may be made
abbrev pub is_full : ℕ → Tree → Bool
is_full limit t = nat_le limit (length t.inodes) || t.next == NUMBER_LIMIT
