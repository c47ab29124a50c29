-- The text of a link by the words of its row.
use Rattle.std.proofs.Common.{◌≡◌, ◌≢◌, ◌↔◌, ℕ, zero, suc, ◌+◌, ◌-◌, ◌*◌, ◌/◌, ◌%◌, ◌^◌, ◌<◌, ◌≤◌, List, length, get_or, take, drop, Option, Some, true, refl, subst, sym, ap, ◌∙◌, arith, inl, inr}
use Rattle.std.specs.Int.{sum_through, byte_worth}
use Rattle.std.proofs.lemmas.Bool.{and_from, cases_eq, cases_lt, ne_eqb, not_from_false}
use Rattle.std.proofs.lemmas.Bool.Decides.{nat_tests}
use Rattle.std.proofs.lemmas.Grind.{common_steps}
use Rattle.std.proofs.lemmas.List.{get_or_past}
use Rattle.std.proofs.lemmas.Nat.{from_le_bytes-to_le_bytes_8}
use Rattle.dc_names.specs.Laws.{NoPieceIsLonger}
use Rattle.dc_names.specs.Words.{AreBytes, word_of, bytes_in}
use Rattle.dc_plain.specs.Facts.{Fact}
use Rattle.dc_plain.specs.Facts.Fact.{Reads}
use Rattle.dc_row.specs.Decoding.{EndsAt, IsRoomOf, byte_in, bytes_from}
use Rattle.dc_row.specs.Narrow.{widened}
use Rattle.dc_row.specs.Rooms.{padded}
use Rattle.dc_row.specs.Spelling.{Spells, SpellsText, IsSpelled, fields, fields_of, is_path, text_word, word_at}
use Rattle.dc_names.specs.declared.limits.TheConstants.{ROW_WORDS, ROW_TEXT}
use Rattle.dc_row.specs.declared.TheConstants.{ROW_ROOM}
use Rattle.dc_row.proofs.Compared.{all_same}
use Rattle.dc_row.proofs.Decoded.{byte_so}
use Rattle.dc_row.proofs.Firsts.{wide_size, wide_word}
use Rattle.dc_row.proofs.Packed.{get_or-padded}
use Rattle.dc_row.proofs.Lanes.{byte_small}
use Rattle.dc_row.proofs.Paths.{path_from, path_parts}
use Rattle.dc_row.proofs.Read.{both, front_is, head_is, part_at, part_short, text_fits}
use Rattle.dc_row.proofs.Written.{word_at-text}

room_at : {words room : List ℕ} {fact : Option Fact} → Spells words fact → IsRoomOf words room → (i : ℕ) → i < ROW_ROOM → get_or room i 0 ≡ get_or (fields_of fact).text i 0
room_at s r i within = r.bytes i within ∙ byte_so s i within

pub front_of_room : {words room : List ℕ} {fact : Option Fact} → Spells words fact → IsRoomOf words room → take (length (fields_of fact).text) room ≡ (fields_of fact).text
front_of_room {room = room} {fact = fact} s r =
    let fits = text_fits s in let size = r.size in
    front_is (fields_of fact).text room (omega arith) (λ k h. room_at s r k (omega arith))

pub room_padded : {words room text : List ℕ} {n : ℕ} → Spells words (Some (Reads n text)) → IsRoomOf words room → padded text ≡ room
room_padded {room = room} {text = text} s r =
    let fits = text_fits s in let size = r.size in
    let same : length (padded text) ≡ ROW_ROOM = grind (arith, common_steps) in
    all_same (padded text) room (same ∙ sym size) (λ k h. get_or-padded text (ROW_ROOM - length text) k ∙ sym (room_at s r k (omega arith)))

pub text_ends : {words text : List ℕ} {n : ℕ} → Spells words (Some (Reads n text)) → EndsAt words (length text)
text_ends {text = text} s = λ i within.
    let at = byte_so s i within in (
      λ h e. (path_parts text (both _ _ (both _ _ s.allowed).0).1).1 i h (sym at ∙ e),
      λ some. elim (cases_lt i (length text)) [ inl h ↦ h | inr past ↦ absurd (some (at ∙ get_or_past text i 0 past)) ],
    )

-- a word has the bytes that stand for it
word_same : (xs : List ℕ) (word : ℕ) → word < 2 ^ 64 → ((i : ℕ) → get_or xs i 0 ≡ get_or (bytes_in word) i 0) → word ≡ word_of xs
unfolding word_of bytes_in
word_same xs word small same = sym (from_le_bytes-to_le_bytes_8 word small) ∙ sym (λ j. sum_through (λ i. byte_worth i (same i j)) 7)

-- a row has the bytes of its first words
pub wide_byte : (words : List ℕ) (i : ℕ) → byte_in (widened words) i ≡ byte_in words i
wide_byte words i = ap (λ (w : ℕ). get_or (bytes_in w) (i % 8) 0) (get_or-padded words (ROW_WORDS - length words) (4 + i / 8))

pub wide_room : {words room : List ℕ} → IsRoomOf words room → IsRoomOf (widened words) room
wide_room {words} r = record { size = r.size; bytes = λ i within. r.bytes i within ∙ sym (wide_byte words i) }

pub wide_ends : (words : List ℕ) (len : ℕ) → EndsAt words len → EndsAt (widened words) len
wide_ends words len ends i within = subst (λ (b : ℕ). (i < len) ↔ (b ≢ 0)) (sym (wide_byte words i)) (ends i within)

pub narrow_ends : (words : List ℕ) (len : ℕ) → EndsAt (widened words) len → EndsAt words len
narrow_ends words len ends i within = subst (λ (b : ℕ). (i < len) ↔ (b ≢ 0)) (wide_byte words i) (ends i within)

-- this many of the bytes for a text
abbrev front : List ℕ → ℕ → List ℕ
front words len = bytes_from (byte_in words) 0 len

from_size : (byte : ℕ → ℕ) (k n : ℕ) → length (bytes_from byte k n) ≡ n
from_size byte k zero = refl
from_size byte k (suc n) = ap suc (from_size byte (suc k) n)

from_place : (byte : ℕ → ℕ) (k n i : ℕ) → i < n → get_or (bytes_from byte k n) i 0 ≡ byte (k + i)
from_place byte k zero i within = absurd (omega arith)
from_place byte k (suc n) zero within = let same : k ≡ k + 0 = omega arith in ap byte same
from_place byte k (suc n) (suc i) within = let same : suc k + i ≡ k + suc i = omega arith in from_place byte (suc k) n i (omega arith) ∙ ap byte same

from_at : (byte : ℕ → ℕ) (n i : ℕ) → i < n → get_or (bytes_from byte 0 n) i 0 ≡ byte i
from_at byte n i within = let same : 0 + i ≡ i = omega arith in from_place byte 0 n i within ∙ ap byte same

-- what the words have, if they have a text of this length
pub record HasText (words : List ℕ) (len : ℕ) : Type 0 where
  pub count : length words ≡ ROW_WORDS
  pub small : (i : ℕ) → get_or words i 0 < 2 ^ 64
  pub some : 0 < len
  pub few : len ≤ ROW_TEXT
  pub head : get_or words 1 0 ≡ 2 + 256 * len
  pub number : get_or words 2 0 ≢ 0
  pub value : get_or words 3 0 ≡ 0
  pub ends : EndsAt words len

-- and so has a row with these first words
pub wide_text : (words : List ℕ) {len : ℕ} → length words ≤ ROW_WORDS → ((i : ℕ) → get_or words i 0 < 2 ^ 64) → 0 < len → len ≤ ROW_TEXT
    → get_or words 1 0 ≡ 2 + 256 * len → get_or words 2 0 ≢ 0 → get_or words 3 0 ≡ 0 → EndsAt words len → HasText (widened words) len
wide_text words {len} size small some few head number value ends = record {
  count = wide_size words size;
  small = λ i. subst (λ (w : ℕ). w < 2 ^ 64) (sym (wide_word words i)) (small i);
  some = some;
  few = few;
  head = wide_word words 1 ∙ head;
  number = subst (λ (w : ℕ). w ≢ 0) (sym (wide_word words 2)) number;
  value = wide_word words 3 ∙ value;
  ends = wide_ends words len ends;
}

-- the bytes after the text are zero, among those of the words and past their end
front_at : {words : List ℕ} {len : ℕ} → HasText words len → (i : ℕ) → i < ROW_ROOM → get_or (front words len) i 0 ≡ byte_in words i
front_at {words} {len} h i within = elim (cases_lt i len) [
  | inl before ↦ from_at (byte_in words) len i before
  | inr past ↦
      let size = from_size (byte_in words) 0 len in
      get_or_past (front words len) i 0 (omega arith) ∙ elim (cases_eq (byte_in words i) 0) [
        | inl none ↦ sym none
        | inr some ↦ let before = (h.ends i within).1 some in absurd (omega arith)
      ]
]

front_bytes : (words : List ℕ) (len : ℕ) → AreBytes (front words len)
front_bytes words len = λ i. elim (cases_lt i len) [
  | inl before ↦ subst (λ (b : ℕ). b < 256) (sym (from_at (byte_in words) len i before)) (byte_small (get_or words (4 + i / 8) 0) i)
  | inr past ↦ let size = from_size (byte_in words) 0 len in subst (λ (b : ℕ). b < 256) (sym (get_or_past (front words len) i 0 (omega arith))) (omega arith)
]

front_word : {words : List ℕ} {len : ℕ} → HasText words len → (k : ℕ) → k < ROW_WORDS - 4 → get_or words (4 + k) 0 ≡ text_word (front words len) k
unfolding bytes_in
front_word {words} {len} h k within =
    let part = take 8 (drop (8 * k) (front words len)) in
    let short : length part ≤ 8 = part_short (front words len) (8 * k) in
    word_same part (get_or words (4 + k) 0) (h.small (4 + k)) (λ i. elim (cases_lt i 8) [
      | inl low ↦
          let word : 4 + (8 * k + i) / 8 ≡ 4 + k = omega arith in
          let byte : (8 * k + i) % 8 ≡ i = omega arith in
          part_at (front words len) 8 (8 * k) i low ∙ front_at h (8 * k + i) (omega arith) ∙ (λ j. get_or (bytes_in (get_or words (word j) 0)) (byte j) 0)
      | inr past ↦ get_or_past part i 0 (omega arith) ∙ sym (get_or_past (bytes_in (get_or words (4 + k) 0)) i 0 past)
    ])

front_spelled : {words : List ℕ} {len : ℕ} → HasText words len → IsSpelled words (fields 2 0 (get_or words 2 0) 0 (front words len))
front_spelled h zero pos lt = absurd (omega arith)
front_spelled {words} {len} h (suc zero) pos lt = let size = from_size (byte_in words) 0 len in let head = h.head in omega arith
front_spelled h (suc (suc zero)) pos lt = refl
front_spelled h (suc (suc (suc zero))) pos lt = h.value
front_spelled {words} {len} h (suc (suc (suc (suc k)))) pos lt =
    let f = fields 2 0 (get_or words 2 0) 0 (front words len) in
    let place : k ≡ 4 + k - 4 = omega arith in
    let late : 4 + k ≡ suc (suc (suc (suc k))) = omega arith in
    subst (λ (i : ℕ). get_or words i 0 ≡ word_at f i) late (front_word h k (omega arith) ∙ ap (text_word f.text) place ∙ sym (word_at-text f (4 + k) (omega arith)))

front_path : {words : List ℕ} {len : ℕ} → NoPieceIsLonger → HasText words len → is_path (front words len) ≡ true
front_path {words} {len} law h =
    let size = from_size (byte_in words) 0 len in let some = h.some in let few = h.few in
    path_from law (front words len) (omega arith) (omega arith) (λ i before e.
    (h.ends i (omega arith)).0 (omega arith) (sym (front_at h i (omega arith)) ∙ e))

pub text_size : {words text : List ℕ} {n : ℕ} → Spells words (Some (Reads n text)) → length text ≡ get_or words 1 0 / 256
text_size s = let head = head_is s in omega arith

pub text_there : {words : List ℕ} {len : ℕ} → NoPieceIsLonger → HasText words len → SpellsText words
text_there {words} {len} law h = (
  get_or words 2 0,
  front words len,
  record {
    size = h.count;
    allowed = let size = from_size (byte_in words) 0 len in let few = h.few in and_from _ _ (and_from _ _ (not_from_false _ (ne_eqb (get_or words 2 0) 0 h.number)) (front_path law h)) (grind (arith, nat_tests));
    bytes = front_bytes words len;
    spelled = front_spelled h;
  },
)
