-- The shared words: word 0 is the clock, word 1 the lock, and each row has ROW_WORDS words from 2 on, of which the first is its count.
use Rattle.std.specs.Prelude.{◌≡◌, ℕ, zero, suc, ◌+◌, ◌*◌, ◌%◌, List, [], ◌∷◌, length, get_or, replicate, Option, Some, None}
use Rattle.dc_plain.specs.Facts.{Fact}
use Rattle.dc_plain.specs.Requests.{Request}
use Rattle.dc_plain.specs.Trees.{Tree, Holds as IsTrueIn}
use Rattle.dc_plain.specs.Runs.{Touches}
use Rattle.dc_plain.specs.Facts.{key_of}
use Rattle.dc_names.specs.declared.limits.TheConstants.{MOST_COUNT, ROW_WORDS}
use Rattle.dc_row.specs.Spelling.{Spells}
use Rattle.dc_events.specs.Views.{Note}

abbrev pub most : ℕ
most = MOST_COUNT

abbrev pub base_of : ℕ → ℕ
base_of row = 2 + row * ROW_WORDS

abbrev pub count : List ℕ → ℕ → ℕ
count words row = get_or words (base_of row) 0

-- this many words from a place on
abbrev pub words_from : List ℕ → ℕ → ℕ → List ℕ
words_from words k zero = []
words_from words k (suc n) = get_or words k 0 ∷ words_from words (suc k) n

-- the words of a row, its count first
abbrev pub row_words : List ℕ → ℕ → List ℕ
row_words words row = words_from words (base_of row) ROW_WORDS

abbrev pub IfFact : Tree → Option Fact → Type 0
IfFact t None = Unit {0}
IfFact t (Some fact) = IsTrueIn t fact

-- the words spell a row whose fact, if any, is true in the tree
pub record Tells (t : Tree) (words : List ℕ) : Type 0 where
  pub fact : Option Fact
  pub spells : Spells words fact
  pub holds : IfFact t fact

abbrev pub note_words : Note → List ℕ
note_words x = x.count ∷ x.words

abbrev pub IsWhole : Note → Type 0
IsWhole x = length x.words + 1 ≡ ROW_WORDS

-- clock 0, a free lock, and rows that are even and empty
abbrev pub opening_words : ℕ → List ℕ
opening_words rows = 0 ∷ 0 ∷ replicate (rows * ROW_WORDS) 0

-- no fact that the row spells has a key that the call touches
abbrev pub IsUntouched : ℕ → Tree → List ℕ → ℕ → Request → Type 0
IsUntouched limit t words row call = count words row % 2 ≡ 0 → (fact : Fact) → Spells (row_words words row) (Some fact) → Touches limit t call (key_of fact) → ⊥
