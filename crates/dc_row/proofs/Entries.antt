-- Words that spell an entry, by the kind and the number that they have.
use Rattle.std.proofs.Common.{◌≡◌, ◌≢◌, ℕ, ◌+◌, ◌*◌, ◌/◌, ◌%◌, ◌≤◌, List, length, get_or, true, Option, Some, ap, refl, sym, subst, ◌∙◌, arith}
use Rattle.dc_names.specs.Words.{AreBytes}
use Rattle.dc_plain.specs.Facts.{Target, Label, Fact, Key, key_of, label_bytes}
use Rattle.dc_plain.specs.Facts.Fact.{Leads, Reads}
use Rattle.dc_plain.specs.Facts.Label.{Entry, Parent, Text}
use Rattle.dc_row.specs.Narrow.{widened}
use Rattle.dc_row.specs.Short.{HasHead, HasText, RowsHaveTheirText}
use Rattle.dc_row.specs.Spelling.{Fields, IsSpelled, Spells, SpellsEntry, TellsOf, entry_of, fields, fields_of, has_spelling, head_of, is_numbered, kind_code, target_number}
use Rattle.dc_names.specs.declared.limits.TheConstants.{ROW_WORDS}
use Rattle.dc_row.specs.declared.layout.TheConstants.{KIND_UNIT, LENGTH_UNIT, TAGS}
use Rattle.dc_row.proofs.Decoded.{kind_is}
use Rattle.dc_row.proofs.Firsts.{narrow_spelled, wide_kind, wide_size, wide_spelled, wide_value}
use Rattle.dc_row.proofs.Read.{both, head_is}
use Rattle.dc_row.proofs.Written.{spelled_by, word_at-text}

pub entry_spelled : {words text : List ℕ} {kind value : ℕ} (key : Key) (t : Option Target) → length words ≡ ROW_WORDS → kind_code t ≡ kind → target_number t ≡ value → has_spelling (entry_of key t) ≡ true → text ≡ label_bytes key.label → AreBytes text → IsSpelled words (fields 1 kind key.number value text) → SpellsEntry words key
entry_spelled {words} key t size kind value ok text are is = (
  t,
  record {
    size = size;
    allowed = ok;
    bytes = subst (λ (bs : List ℕ). AreBytes bs) text are;
    spelled = subst (λ (f : Fields). IsSpelled words f) (λ i. fields 1 (sym kind i) key.number (sym value i) (text i)) is;
  },
)

-- an entry is spelled by a row's first words
pub wide_entry : (words : List ℕ) {text : List ℕ} {kind value : ℕ} (key : Key) (t : Option Target)
    → length words ≤ ROW_WORDS → kind_code t ≡ kind → target_number t ≡ value → has_spelling (entry_of key t) ≡ true → text ≡ label_bytes key.label
    → AreBytes text → IsSpelled words (fields 1 kind key.number value text) → SpellsEntry (widened words) key
wide_entry words {text} {kind} {value} key t few is_kind is_value ok same are is =
    entry_spelled key t (wide_size words few) is_kind is_value ok same are (wide_spelled words (fields 1 kind key.number value text) is)

-- an entry that can be spelled has a number, if it leads anywhere
numbered_by : (d : ℕ) (label : Label) (target : Option Target) → has_spelling (Some (Leads d label target)) ≡ true → is_numbered target ≡ true
numbered_by d (Entry name) target ok = (both _ _ ok).1
numbered_by d Parent target ok = (both _ _ (both _ _ ok).0).1
numbered_by d Text target ok = absurd cc

pub numbered : (key : Key) (target : Option Target) → has_spelling (entry_of key target) ≡ true → is_numbered target ≡ true
numbered key target ok = numbered_by key.number key.label target ok

-- an entry leads where the kind and the value among a row's first words say
pub wide_target : (words : List ℕ) {kind value : ℕ} (key : Key) (t : Option Target)
    → kind ≡ get_or words 1 0 / KIND_UNIT % TAGS → value ≡ get_or words 3 0 → Spells (widened words) (entry_of key t) → (kind ≡ kind_code t) × (value ≡ target_number t) × (is_numbered t ≡ true)
wide_target words key t kind value s = (wide_kind words kind s, wide_value words value s, numbered key t s.allowed)

-- and is spelled by them, and its text
pub narrow_entry : (words : List ℕ) {text : List ℕ} {kind value : ℕ} (key : Key) (t : Option Target)
    → kind ≡ get_or words 1 0 / KIND_UNIT % TAGS → value ≡ get_or words 3 0 → text ≡ label_bytes key.label
    → Spells (widened words) (entry_of key t) → IsSpelled words (fields 1 kind key.number value text)
narrow_entry words key t kind value text s = let is = wide_target words key t kind value s in
    subst (IsSpelled words) (λ i. fields 1 (sym is.0 i) key.number (sym is.1 i) (sym text i)) (narrow_spelled words (fields_of (entry_of key t)) s.spelled)

entry_of_fact : {words : List ℕ} {key : Key} (fact : Fact) → key_of fact ≡ key → Spells words (Some fact) → key.label ≢ Text → SpellsEntry words key
entry_of_fact {words} {key} (Leads d label target) about s other = (target, subst (λ (k : Key). Spells words (entry_of k target)) about s)
entry_of_fact (Reads n text) about s other = absurd (other (ap (λ (k : Key). k.label) (sym about)))

-- what tells of a key is an entry, unless the key is a link's text
pub entry_told : {words : List ℕ} {key : Key} → TellsOf words key → key.label ≢ Text → SpellsEntry words key
entry_told t other = entry_of_fact t.fact t.about t.spelled other

pub tells_entry : {words : List ℕ} {key : Key} → SpellsEntry words key → TellsOf words key
tells_entry {key = key} s = record { fact = Leads key.number key.label s.0; about = refl; spelled = s.1 }

-- head, number, value and text tell all of a row
pub head_spelled : {words : List ℕ} {head number value : ℕ} (f : Fields) → HasHead words head number value → head ≡ head_of f → number ≡ f.number → value ≡ f.value → HasText words f.text → IsSpelled words f
head_spelled {words} f h head number value text = spelled_by words f (h.head ∙ head) (h.number ∙ number) (h.value ∙ value) text

pub kind_by_head : {words : List ℕ} {head number value : ℕ} {key : Key} → HasHead words head number value → (s : SpellsEntry words key) → head / KIND_UNIT % TAGS ≡ kind_code s.0
kind_by_head h s = ap (λ (w : ℕ). w / KIND_UNIT % TAGS) (sym h.head) ∙ kind_is s.1

pub head_by_entry : {words : List ℕ} {head number value : ℕ} {key : Key} → HasHead words head number value → (s : SpellsEntry words key) → head ≡ 1 + LENGTH_UNIT * length (label_bytes key.label) + KIND_UNIT * kind_code s.0
head_by_entry h s = sym h.head ∙ head_is s.1

-- words with a key's text tell of the key, if their head, number and value say so
pub tells_by_head : {words : List ℕ} {head number value : ℕ} (key : Key) (t : Option Target)
    → HasHead words head number value → HasText words (label_bytes key.label) → kind_code t ≡ head / KIND_UNIT % TAGS → target_number t ≡ value
    → has_spelling (entry_of key t) ≡ true → AreBytes (label_bytes key.label) → number ≡ key.number
    → head ≡ head_of (fields 1 (head / KIND_UNIT % TAGS) key.number value (label_bytes key.label)) → TellsOf words key
tells_by_head {head = head} {value = value} key t h text is_kind is_value ok are number is =
    tells_entry (entry_spelled key t h.size is_kind is_value ok refl are (head_spelled (fields 1 (head / KIND_UNIT % TAGS) key.number value (label_bytes key.label)) h is number refl text))

-- what tells of a key by an entry has the head of one
pub told_head : {words : List ℕ} {head number value : ℕ} {key : Key} → HasHead words head number value → TellsOf words key → key.label ≢ Text
    → head ≡ head_of (fields 1 (head / KIND_UNIT % TAGS) key.number value (label_bytes key.label))
told_head {key = key} h tells other = let s = entry_told tells other in
    head_by_entry h s ∙ ap (λ (k : ℕ). 1 + LENGTH_UNIT * length (label_bytes key.label) + KIND_UNIT * k) (sym (kind_by_head h s))

pub has_their_text : RowsHaveTheirText
has_their_text words key t other = let s = entry_told t other in
    λ i late few. s.1.spelled i (omega arith) few ∙ word_at-text (fields_of (entry_of key s.0)) i late
