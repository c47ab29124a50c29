-- A row by its first words.
use Rattle.std.proofs.Common.{◌≡◌, ℕ, ◌+◌, ◌-◌, ◌*◌, ◌/◌, ◌%◌, ◌<◌, ◌≤◌, Bool, IsTrue, ◌↔◌, List, ◌++◌, min, length, length-take-le, length-append, get_or, take, replicate, Option, Some, inl, inr, ap, sym, ◌∙◌, arith}
use Rattle.std.proofs.lemmas.Bool.{cases_lt}
use Rattle.std.proofs.lemmas.List.{get_or_append_left, get_or-append_right, get_or-replicate, get_or_past, get_or-take, length-replicate}
use Rattle.std.proofs.Math.Nat.{min-eq_left}
use Rattle.dc_plain.specs.Facts.{Label, Target}
use Rattle.dc_plain.specs.Facts.Fact.{Leads}
use Rattle.dc_row.specs.Narrow.{told_words, widened, words_for, RowsEndInZeros}
use Rattle.dc_row.specs.Spelling.{fields_of, head_of, kind_code, target_number, text_word, Fields, IsSpelled, Spells}
use Rattle.dc_names.specs.declared.limits.TheConstants.{ROW_WORDS}
use Rattle.dc_row.specs.declared.layout.TheConstants.{KIND_UNIT, TAGS}
use Rattle.dc_row.proofs.Compared.{all_same}
use Rattle.dc_row.proofs.Decoded.{kind_is}
use Rattle.dc_row.proofs.Packed.{get_or-padded}
use Rattle.dc_row.proofs.Read.{length_is, text_fits}
use Rattle.dc_row.proofs.Written.{spelled_by, word_at-text, word_past}

-- words that are zero from the n-th on are their first n, and zeros
narrow_at : (words : List ℕ) (n m : ℕ) → length (take n words) ≡ n → ((i : ℕ) → n ≤ i → i < n + m → get_or words i 0 ≡ 0) → (k : ℕ) → k < n + m → get_or (take n words ++ replicate m 0) k 0 ≡ get_or words k 0
narrow_at words n m short zeros k h = elim (cases_lt k n) [
  | inl l ↦ get_or_append_left (take n words) (replicate m 0) 0 k (omega arith) ∙ get_or-take n words k 0 l
  | inr late ↦ get_or-append_right (take n words) (replicate m 0) n k 0 short late ∙ (get_or-replicate m (k - n) 0 0 (omega arith) ∙ sym (zeros k late h))
]

narrow : (words : List ℕ) (n : ℕ) → n ≤ ROW_WORDS → length words ≡ ROW_WORDS → ((i : ℕ) → n ≤ i → i < ROW_WORDS → get_or words i 0 ≡ 0) → widened (take n words) ≡ words
narrow words n few size zeros =
    let short : length (take n words) ≡ n = length-take-le n words (omega arith) in
    let many = ROW_WORDS - length (take n words) in
    let all : n + many ≡ ROW_WORDS = omega arith in
    let whole : length (take n words ++ replicate many 0) ≡ length words = length-append (take n words) (replicate many 0) ∙ (ap (λ (m : ℕ). length (take n words) + m) (length-replicate many 0) ∙ omega arith) in
    all_same (take n words ++ replicate many 0) words whole (λ k h. narrow_at words n many short (λ i late lt. zeros i late (omega arith)) k (omega arith))

pub ends_in_zeros : RowsEndInZeros
ends_in_zeros words fact s =
    let fits = text_fits s in
    let f = fields_of (Some fact) in
    let size : told_words words ≡ words_for (length f.text) = ap (λ (n : ℕ). min (words_for n) ROW_WORDS) (length_is s) ∙ min-eq_left (omega arith) in
    record {
      size = size;
      zeros = narrow words (told_words words) (omega arith) s.size (λ i late few. s.spelled i (omega arith) few ∙ word_at-text f i (omega arith) ∙ word_past f.text (i - 4) (omega arith));
    }

-- a word of a row is that of its first words, or zero past them
pub wide_word : (words : List ℕ) (i : ℕ) → get_or (widened words) i 0 ≡ get_or words i 0
wide_word words i = get_or-padded words (ROW_WORDS - length words) i

pub wide_size : (words : List ℕ) → length words ≤ ROW_WORDS → length (widened words) ≡ ROW_WORDS
wide_size words few = length-append words (replicate (ROW_WORDS - length words) 0) ∙ (ap (λ (m : ℕ). length words + m) (length-replicate (ROW_WORDS - length words) 0) ∙ omega arith)

-- words that are zero from a place on, to their end
pub zero_from : (words : List ℕ) (from : ℕ) → ((i : ℕ) → from ≤ i → i < length words → get_or words i 0 ≡ 0) → (i : ℕ) → from ≤ i → get_or words i 0 ≡ 0
zero_from words from zeros i late = elim (cases_lt i (length words)) [ inl l ↦ zeros i late l | inr past ↦ get_or_past words i 0 past ]

-- words that spell the fields up to the end of the text do so altogether just if all from there on are zero
pub spelled_if_zero : (words : List ℕ) (f : Fields) (end : ℕ) (zero : Bool) → length words ≤ ROW_WORDS → 4 ≤ end → length f.text ≤ 8 * (end - 4) → get_or words 1 0 ≡ head_of f → get_or words 2 0 ≡ f.number → get_or words 3 0 ≡ f.value
    → ((j : ℕ) → 4 ≤ j → j < end → get_or words j 0 ≡ text_word f.text (j - 4)) → (IsTrue zero ↔ ((i : ℕ) → end ≤ i → i < length words → get_or words i 0 ≡ 0)) → IsTrue zero ↔ IsSpelled words f
spelled_if_zero words f end zero few late covered head number value text zeros = (
  λ all. spelled_by words f head number value (λ j some below. elim (cases_lt j end) [
    | inl l ↦ text j some l
    | inr past ↦ zero_from words end (zeros.0 all) j past ∙ sym (word_past f.text (j - 4) (omega arith))
  ]),
  λ is. zeros.1 (λ i past within. is i (omega arith) (omega arith) ∙ word_at-text f i (omega arith) ∙ word_past f.text (i - 4) (omega arith)),
)

-- a whole row is its first words
pub whole : (words : List ℕ) → length words ≡ ROW_WORDS → widened words ≡ words
whole words size = all_same (widened words) words (wide_size words (omega arith) ∙ sym size) (λ k h. wide_word words k)

pub wide_spelled : (words : List ℕ) (f : Fields) → IsSpelled words f → IsSpelled (widened words) f
wide_spelled words f is i pos lt = wide_word words i ∙ is i pos lt

pub narrow_spelled : (words : List ℕ) (f : Fields) → IsSpelled (widened words) f → IsSpelled words f
narrow_spelled words f is i pos lt = sym (wide_word words i) ∙ is i pos lt

-- the kind and the value of an entry
pub wide_kind : (words : List ℕ) {kind d : ℕ} {label : Label} {target : Option Target} → kind ≡ get_or words 1 0 / KIND_UNIT % TAGS → Spells (widened words) (Some (Leads d label target)) → kind ≡ kind_code target
wide_kind words is s = is ∙ (ap (λ (w : ℕ). w / KIND_UNIT % TAGS) (sym (wide_word words 1)) ∙ kind_is s)

pub wide_value : (words : List ℕ) {value d : ℕ} {label : Label} {target : Option Target} → value ≡ get_or words 3 0 → Spells (widened words) (Some (Leads d label target)) → value ≡ target_number target
wide_value words is s = is ∙ (sym (wide_word words 3) ∙ s.spelled 3 (omega arith) (omega arith))
