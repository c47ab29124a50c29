-- A row that is compared while it is read: its head, its number and its value, and then its text.
use Rattle.std.specs.Prelude.{◌≡◌, ◌≢◌, ◌↔◌, ℕ, ◌-◌, ◌<◌, ◌≤◌, List, Bool, length, slice_index, IsTrue}
use Rattle.dc_plain.specs.Facts.{Key, label_bytes}
use Rattle.dc_plain.specs.Facts.Label.{Text}
use Rattle.dc_row.specs.Spelling.{TellsOf, text_word}
use Rattle.dc_names.specs.declared.limits.TheConstants.{ROW_WORDS}
use Rattle.dc_row.specs.declared.layout.TheConstants.{TEXT_START}

-- the words after the value are those of a text
abbrev pub HasText : List ℕ → List ℕ → Type 0
HasText words text = (i : ℕ) → TEXT_START ≤ i → i < ROW_WORDS → slice_index words i ≡ text_word text (i - TEXT_START)

-- a row's words after the count begin with a head, a number and a value
pub record HasHead (words : List ℕ) (first second third : ℕ) : Type 0 where
  pub size : length words ≡ ROW_WORDS
  pub head : slice_index words 1 ≡ first
  pub number : slice_index words 2 ≡ second
  pub value : slice_index words 3 ≡ third

-- by the head, the number and the value of a row with a key's text it is told whether the row spells an
-- entry of the key
abbrev pub TellsByHead : ℕ → ℕ → ℕ → Key → Bool → Type 0
TellsByHead head number value key result = (words : List ℕ) → HasHead words head number value → HasText words (label_bytes key.label) → key.label ≢ Text → (IsTrue result ↔ TellsOf words key)

-- a row that spells an entry of a key has the key's text
abbrev pub RowsHaveTheirText : Type 0
RowsHaveTheirText = (words : List ℕ) (key : Key) → TellsOf words key → key.label ≢ Text → HasText words (label_bytes key.label)
