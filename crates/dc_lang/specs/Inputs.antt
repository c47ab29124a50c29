-- What the lines of an input say, those of an output tell, and which of them is the first bad one.
use Rattle.std.specs.Prelude.{◌≡◌, ℕ, ◌+◌, List, [], ◌∷◌, ◌++◌, length}
use Rattle.dc_lang.specs.Commands.{Meaning, Means}
use Rattle.dc_lang.specs.Responses.{Response, Tells}
use Rattle.dc_lang.specs.declared.fault.InputFault.{InputFault}
use Rattle.dc_lang.specs.declared.fault.InputFault.TheVariants.{BadLine, NoMemory}

-- the lines are read so, one after the other
abbrev pub AllRead : {A : Type 0} → (List ℕ → A → Type 0) → List (List ℕ) → List A → Type 0
AllRead Reads [] [] = Unit {0}
AllRead Reads [] (one ∷ rest) = ⊥
AllRead Reads (line ∷ lines) [] = ⊥
AllRead Reads (line ∷ lines) (one ∷ rest) = Reads line one × AllRead Reads lines rest

-- the n-th line, counted from 1, can't be read, and each line before it can
pub record IsFirstUnread {A : Type 0} (Reads : List ℕ → A → Type 0) (n : ℕ) (lines : List (List ℕ)) : Type 0 where
  pub before : List (List ℕ)
  pub line : List ℕ
  pub after : List (List ℕ)
  pub said : List A
  pub cut : lines ≡ before ++ line ∷ after
  pub number : n ≡ length before + 1
  pub good : AllRead Reads before said
  pub bad : (any : A) → Reads line any → ⊥

-- a line isn't read if it is bad, or if memory was refused
abbrev pub IsLineFault : {A : Type 0} → (List ℕ → A → Type 0) → ℕ → List ℕ → InputFault → Type 0
IsLineFault {A} Reads n line (BadLine m) = (m ≡ n) × ((any : A) → Reads line any → ⊥)
IsLineFault Reads n line NoMemory = Unit {0}

abbrev pub IsLinesFault : {A : Type 0} → (List ℕ → A → Type 0) → List (List ℕ) → InputFault → Type 0
IsLinesFault Reads lines (BadLine n) = IsFirstUnread Reads n lines
IsLinesFault Reads lines NoMemory = Unit {0}

-- the lines of an input say this
abbrev pub AllSay : List (List ℕ) → List Meaning → Type 0
AllSay lines said = AllRead Means lines said

abbrev pub IsFirstBad : ℕ → List (List ℕ) → Type 0
IsFirstBad n lines = IsFirstUnread Means n lines

-- the lines of an output, each with its newline, tell this
abbrev pub AllTell : List (List ℕ) → List Response → Type 0
AllTell lines told = AllRead Tells lines told
