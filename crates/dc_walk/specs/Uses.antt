-- The notes that a walk uses.
use Rattle.std.specs.Prelude.{◌≡◌, ℕ, zero, suc, ◌<◌, ◌⊎◌, List, [], ◌∷◌, Bool, true, false, Some, length, map, take, get_or, Option}
use Rattle.dc_plain.specs.Facts.{Fact, key_of, told_by, Teller}
use Rattle.dc_plain.specs.Facts.Fact.{Reads}
use Rattle.dc_row.specs.Spelling.{Spells}
use Rattle.dc_plain.specs.Resolution.{Outcome}
use Rattle.dc_resolve.specs.Needs.{IsNeeded, IsUntold}
use Rattle.dc_events.specs.Views.{Note}
use Rattle.dc_events.specs.Rows.{note_words}

-- the row and the count of a note, its place among the notes, and its fact
pub record Use : Type 0 where
  pub row : ℕ
  pub count : ℕ
  pub place : ℕ
  pub fact : Fact

abbrev pub facts_of : List Use → List Fact
facts_of uses = map (λ u. u.fact) uses

-- note k is the one that is used
pub record IsUse (u : Use) (k : ℕ) (x : Note) : Type 0 where
  pub at : u.place ≡ k
  pub row : x.row ≡ u.row
  pub count : x.count ≡ u.count
  pub spells : Spells (note_words x) (Some u.fact)

abbrev pub is_some_of : ℕ → Bool
is_some_of zero = false
is_some_of (suc c) = true

abbrev pub before : ℕ → ℕ
before zero = zero
before (suc c) = c

-- the notes from the k-th on: these of them are used, the first c of which are checked, and no other is
abbrev pub Marked : ℕ → ℕ → List Note → List Use → Type 0
Marked k c [] us = us ≡ []
Marked k c (x ∷ xs) [] = (x.checked ≡ false) × Marked (suc k) c xs []
Marked k c (x ∷ xs) (u ∷ us) = ((x.checked ≡ false) × Marked (suc k) c xs (u ∷ us)) ⊎ (IsUse u k x × (x.checked ≡ is_some_of c) × Marked (suc k) (before c) xs us)

-- nothing is told of the key of a fact
abbrev pub IsNew : Teller → Fact → Type 0
IsNew teller fact = IsUntold teller (key_of fact).number (key_of fact).label

-- no two of these facts have one key
abbrev pub DiffersEach : List Fact → Type 0
DiffersEach facts = (i : ℕ) → i < length facts → IsNew (told_by (take i facts)) (get_or facts i (Reads 0 []))

-- once these facts are told, what follows needs the key of one more
abbrev pub NeedsNext : {A : Type 0} → (Teller → Option A) → List Fact → Fact → Type 0
NeedsNext outcome facts fact = IsNeeded outcome (told_by facts) (key_of fact).number (key_of fact).label

-- so it is of each of these facts, told in this order
abbrev pub NeedsEach : {A : Type 0} → (Teller → Option A) → List Fact → Type 0
NeedsEach outcome facts = (i : ℕ) → i < length facts → NeedsNext outcome (take i facts) (get_or facts i (Reads 0 []))

-- these of the notes answered questions, one each: what follows needed each of them, and no two were of one key
pub record HasUsed (outcome : Teller → Option Outcome) (notes : List Note) (uses : List Use) : Type 0 where
  pub marked : Marked 0 0 notes uses
  pub needed : NeedsEach outcome (facts_of uses)
  pub distinct : DiffersEach (facts_of uses)
