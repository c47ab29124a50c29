-- Which questions a walk needs answered.
use Rattle.std.specs.Prelude.{◌≡◌, ℕ, ◌∷◌, ◌++◌, List, Bool, ◌&&◌, Option, None, IsTrue}
use Rattle.dc_names.specs.Bytes.{is_empty}
use Rattle.dc_names.specs.Paths.{Part, parts_of}
use Rattle.dc_plain.specs.declared.call.Follow.{Follow}
use Rattle.dc_plain.specs.Facts.{Target, Label, Teller}
use Rattle.dc_plain.specs.Facts.Label.{Entry, Parent, Text}
use Rattle.dc_plain.specs.Resolution.{is_directory, resolve}
use Rattle.dc_plain.specs.Tellers.{Extends}
use Rattle.dc_resolve.specs.Asked.{is_asked, label_of}
use Rattle.dc_resolve.specs.Walks.{at_link}
use Rattle.dc_resolve.specs.declared.finder.Finder.{Ghosts}

-- of this key nothing is told
abbrev pub IsUntold : Teller → ℕ → Label → Type 0
IsUntold teller n (Entry name) = teller.entry n (Entry name) ≡ None
IsUntold teller n Parent = teller.entry n Parent ≡ None
IsUntold teller n Text = teller.text n ≡ None

-- whoever tells what was said, and whatever else, but nothing of this key, has no outcome
abbrev pub IsNeeded : {A : Type 0} → (Teller → Option A) → Teller → ℕ → Label → Type 0
IsNeeded outcome said n label = (teller : Teller) → Extends said teller → IsUntold teller n label → outcome teller ≡ None

-- a part asks a question at a place
abbrev pub asks : Target → Part → Bool
asks place part = is_directory place && is_asked place.0 part

-- the first of some parts may be asked at a place
abbrev pub MayAskFirst : (ℕ → Label → Type 0) → Target → List Part → Type 0
MayAskFirst may place parts = (part : Part) (rest : List Part) → parts ≡ part ∷ rest → IsTrue (asks place part) → may place.0 (label_of part)

module _ {F T S : Type 0} (g : Ghosts F T S) (finder : F) where
  -- what an outcome needs may be asked, whatever has been asked before
  abbrev pub MayAsk : {A : Type 0} → (Teller → Option A) → Type 0
  MayAsk outcome = (f : F) → g.becomes finder f → (n : ℕ) (label : Label) → IsNeeded outcome (g.said f) n label → g.may_ask f n label

  -- what the resolution of some bytes needs may be asked, with this many links to follow, above something that is nothing or not
  abbrev pub MayAskOver : Follow → ℕ → Bool → Target → List ℕ → Bool → Type 0
  MayAskOver how links slash place bytes is_last = (below : List Part) × (is_empty below ≡ is_last) × MayAsk (λ teller. resolve teller how links place (parts_of bytes ++ below) slash)

  -- and what a link in a directory needs
  abbrev pub MayAskThrough : Follow → ℕ → Bool → Target → ℕ → Bool → Type 0
  MayAskThrough how links slash at link is_last = (below : List Part) × (is_empty below ≡ is_last) × MayAsk (λ teller. at_link teller how links at link below slash)
