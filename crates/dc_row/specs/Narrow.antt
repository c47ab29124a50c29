-- The first words of a row, which tell all of it.
use Rattle.std.specs.Prelude.{◌≡◌, ℕ, ◌+◌, ◌-◌, ◌/◌, ◌%◌, List, ◌++◌, min, length, take, replicate, slice_index, Some}
use Rattle.dc_plain.specs.Facts.{Fact}
use Rattle.dc_row.specs.Spelling.{Spells, fields_of}
use Rattle.dc_names.specs.declared.limits.TheConstants.{ROW_WORDS}
use Rattle.dc_row.specs.declared.layout.TheConstants.{LENGTH_UNIT, LENGTHS, TEXT_START}

-- those before the text, and those that a text of this length takes
abbrev pub words_for : ℕ → ℕ
words_for len = TEXT_START + (len + 7) / 8

-- how many of a row's words tell something
abbrev pub told_words : List ℕ → ℕ
told_words words = min (words_for (slice_index words 1 / LENGTH_UNIT % LENGTHS)) ROW_WORDS

-- a row with these first words, and zeros past them
abbrev pub widened : List ℕ → List ℕ
widened words = words ++ replicate (ROW_WORDS - length words) 0

-- a row that tells a fact is told by its first words
pub record EndsInZeros (words : List ℕ) (fact : Fact) : Type 0 where
  pub size : told_words words ≡ words_for (length (fields_of (Some fact)).text)
  pub zeros : widened (take (told_words words) words) ≡ words

abbrev pub RowsEndInZeros : Type 0
RowsEndInZeros = (words : List ℕ) (fact : Fact) → Spells words (Some fact) → EndsInZeros words fact
