-- The words of a row: after the sequence count the head, the number, the value, and then the text.
use Rattle.std.specs.Prelude.{ℕ, List, [], Bool, true, false, not, ◌&&◌, ◌≡◌, ◌==◌, ◌+◌, ◌-◌, ◌*◌, ◌<◌, nat_lt, length, take, drop, slice_index, if◌then◌else◌, Option, Some, None, IsTrue}
use Rattle.dc_names.specs.Bytes.{is_name}
use Rattle.dc_names.specs.Paths.{fault_of}
use Rattle.dc_names.specs.Words.{AreBytes, word_of}
use Rattle.dc_names.specs.declared.kind.Kind.TheVariants.{Dir, File, Link}
use Rattle.dc_plain.specs.Facts.{Target, Label, Key, Fact, key_of, label_bytes}
use Rattle.dc_plain.specs.Facts.Label.{Entry, Parent, Text}
use Rattle.dc_plain.specs.Facts.Fact.{Leads, Reads}
use Rattle.dc_names.specs.declared.limits.TheConstants.{ROW_WORDS, ROW_TEXT}
use Rattle.dc_row.specs.declared.layout.TheConstants.{KIND_UNIT, LENGTH_UNIT, TEXT_START}

-- no place 0, a directory 1, a file 2, a link 3
abbrev pub kind_code : Option Target → ℕ
kind_code None = 0
kind_code (Some place) = elim place.1 [ Dir ↦ 1 | File ↦ 2 | Link ↦ 3 ]

abbrev pub target_number : Option Target → ℕ
target_number None = 0
target_number (Some place) = place.0

-- what stands in the words of a row
pub record Fields : Type 0 where
  pub tag : ℕ
  pub kind : ℕ
  pub number : ℕ
  pub value : ℕ
  pub text : List ℕ

abbrev pub fields : ℕ → ℕ → ℕ → ℕ → List ℕ → Fields
fields tag kind number value text = record { tag = tag; kind = kind; number = number; value = value; text = text }

-- tag 0 for no fact, 1 for an entry, 2 for a link's text
abbrev pub fields_of : Option Fact → Fields
fields_of None = fields 0 0 0 0 []
fields_of (Some (Leads d label target)) = fields 1 (kind_code target) d (target_number target) (label_bytes label)
fields_of (Some (Reads n text)) = fields 2 0 n 0 text

-- the tag in the lowest byte, the length of the text in the next two, the kind in the next
abbrev pub head_of : Fields → ℕ
head_of f = f.tag + LENGTH_UNIT * length f.text + KIND_UNIT * f.kind

-- eight bytes of a text, the first lowest, zeros past its end
abbrev pub text_word : List ℕ → ℕ → ℕ
text_word text k = word_of (take 8 (drop (8 * k) text))

abbrev pub word_at : Fields → ℕ → ℕ
word_at f i = if i == 1 then head_of f else if i == 2 then f.number else if i == 3 then f.value else text_word f.text (i - TEXT_START)

abbrev pub has_room : List ℕ → Bool
has_room text = not (nat_lt ROW_TEXT (length text))

abbrev pub is_numbered : Option Target → Bool
is_numbered None = true
is_numbered (Some place) = not (place.0 == 0)

abbrev pub is_path : List ℕ → Bool
is_path text = elim (fault_of text) [ None ↦ true | Some fault ↦ false ]

-- a dot-dot leads to a directory, if anywhere
abbrev pub has_spelling : Option Fact → Bool
has_spelling None = true
has_spelling (Some (Leads d (Entry name) target)) = not (d == 0) && is_name name && has_room name && is_numbered target
has_spelling (Some (Leads d Parent target)) = not (d == 0) && is_numbered target && not (nat_lt 1 (kind_code target))
has_spelling (Some (Leads d Text target)) = false
has_spelling (Some (Reads n text)) = not (n == 0) && is_path text && has_room text

-- the words after the sequence count are those of the fields
abbrev pub IsSpelled : List ℕ → Fields → Type 0
IsSpelled words f = (i : ℕ) → 0 < i → i < ROW_WORDS → slice_index words i ≡ word_at f i

-- the words spell the fact, or none; the sequence count isn't looked at
pub record Spells (words : List ℕ) (fact : Option Fact) : Type 0 where
  pub size : length words ≡ ROW_WORDS
  pub allowed : IsTrue (has_spelling fact)
  pub bytes : AreBytes (fields_of fact).text
  pub spelled : IsSpelled words (fields_of fact)

-- the entry of a key, by where it leads
abbrev pub entry_of : Key → Option Target → Option Fact
entry_of key target = Some (Leads key.number key.label target)

-- the words spell an entry of a key, wherever it leads, or none
abbrev pub SpellsEntry : List ℕ → Key → Type 0
SpellsEntry words key = (target : Option Target) × Spells words (entry_of key target)

abbrev pub SpellsNoEntry : List ℕ → Key → Type 0
SpellsNoEntry words key = (target : Option Target) → Spells words (entry_of key target) → ⊥

-- the words spell the text of a link
abbrev pub SpellsText : List ℕ → Type 0
SpellsText words = (n : ℕ) × (text : List ℕ) × Spells words (Some (Reads n text))

-- whatever row the words spell
abbrev pub TellsRow : List ℕ → Option (Option Fact) → Type 0
TellsRow words result = (fact : Option Fact) → Spells words fact → result ≡ Some fact

-- the label, or the target, of any entry that the words spell; the text of any link
abbrev pub TellsLabel : List ℕ → Option Label → Type 0
TellsLabel words result = (d : ℕ) (label : Label) (target : Option Target) → Spells words (Some (Leads d label target)) → result ≡ Some label

abbrev pub TellsTarget : List ℕ → Option Target → Type 0
TellsTarget words result = (d : ℕ) (label : Label) (target : Option Target) → Spells words (Some (Leads d label target)) → result ≡ target

abbrev pub TellsText : List ℕ → Option (List ℕ) → Type 0
TellsText words result = (n : ℕ) (text : List ℕ) → Spells words (Some (Reads n text)) → result ≡ Some text

-- the words spell a fact of the key
pub record TellsOf (words : List ℕ) (key : Key) : Type 0 where
  pub fact : Fact
  pub about : key_of fact ≡ key
  pub spelled : Spells words (Some fact)
