-- The fact that the fields of a row's words tell, whether or not the words are spelled so.
use Rattle.std.specs.Prelude.{◌≡◌, ◌≢◌, ◌↔◌, ℕ, zero, suc, ◌+◌, ◌/◌, ◌%◌, ◌<◌, ◌==◌, List, [], ◌∷◌, Option, Some, None, length, slice_index, if◌then◌else◌}
use Rattle.dc_names.specs.Words.{bytes_in}
use Rattle.dc_names.specs.declared.kind.Kind.TheVariants.{Dir, File, Link}
use Rattle.dc_plain.specs.Facts.{Target, Label, Fact, same_bytes}
use Rattle.dc_plain.specs.Facts.Label.{Entry, Parent}
use Rattle.dc_plain.specs.Facts.Fact.{Leads, Reads}
use Rattle.dc_row.specs.Spelling.{Spells}
use Rattle.dc_row.specs.declared.TheConstants.{ROW_ROOM}
use Rattle.dc_row.specs.declared.layout.TheConstants.{KIND_UNIT, LENGTH_UNIT, LENGTHS, TAGS, TEXT_START}

-- where an entry leads, by the code of a kind and a number
abbrev pub target_by : ℕ → ℕ → Option Target
target_by kind value =
    if kind == 1 then Some (value, Dir)
    else if kind == 2 then Some (value, File)
    else if kind == 3 then Some (value, Link)
    else None

-- two dots are dot-dot, other bytes a name
abbrev pub label_by : List ℕ → Label
label_by text = if same_bytes text (46 ∷ 46 ∷ []) then Parent else Entry text

-- by the fields of a row: `Some None` is an empty row
abbrev pub fact_by : ℕ → ℕ → ℕ → ℕ → List ℕ → Option (Option Fact)
fact_by tag kind number value text =
    if tag == 0 then Some None
    else if tag == 1 then Some (Some (Leads number (label_by text) (target_by kind value)))
    else if tag == 2 then Some (Some (Reads number text))
    else None

-- a byte of the text
abbrev pub byte_in : List ℕ → ℕ → ℕ
byte_in words i = slice_index (bytes_in (slice_index words (TEXT_START + i / 8))) (i % 8)

-- a room with all bytes of a row's words for a text
pub record IsRoomOf (words room : List ℕ) : Type 0 where
  pub size : length room ≡ ROW_ROOM
  pub bytes : (i : ℕ) → i < ROW_ROOM → slice_index room i ≡ byte_in words i

-- this many of a word's first bytes, and only they, aren't zero
abbrev pub HasBytes : List ℕ → ℕ → Type 0
HasBytes bytes len = (i : ℕ) → i < 8 → (i < len) ↔ (slice_index bytes i ≢ 0)

-- the bytes of the text before a place, and only they, aren't zero
abbrev pub EndsAt : List ℕ → ℕ → Type 0
EndsAt words len = (i : ℕ) → i < ROW_ROOM → (i < len) ↔ (byte_in words i ≢ 0)

-- this many bytes from the k-th on
abbrev pub bytes_from : (ℕ → ℕ) → ℕ → ℕ → List ℕ
bytes_from byte k zero = []
bytes_from byte k (suc n) = byte k ∷ bytes_from byte (suc k) n

-- the fact of a row's words, of which the sequence count isn't looked at
abbrev pub fact_in : List ℕ → Option (Option Fact)
fact_in words =
    let head = slice_index words 1 in
    fact_by (head % TAGS) (head / KIND_UNIT % TAGS) (slice_index words 2) (slice_index words 3)
    (bytes_from (byte_in words) 0 (head / LENGTH_UNIT % LENGTHS))

-- words that spell a fact, or none, have just that
abbrev pub SpelledIsRead : Type 0
SpelledIsRead = (words : List ℕ) (fact : Option Fact) → Spells words fact → fact_in words ≡ Some fact
