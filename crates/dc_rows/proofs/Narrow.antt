-- A row is zero past the words that may tell something of its key.
use Rattle.std.proofs.Common.{◌≡◌, ◌≢◌, ◌==◌, ℕ, ◌+◌, ◌-◌, ◌*◌, ◌≤◌, Bool, true, false, cond, List, [], length, take, min, set, get_or, Option, Some, None, refl, sym, ap, ◌∙◌, subst, subst₂, arith, inl, inr, get_or-set_other}
use Rattle.std.proofs.Math.Logic.{∥∥₁_elim}
use Rattle.std.proofs.Math.Nat.{ℕ_set}
use Rattle.std.proofs.lemmas.Bool.{and_parts, cases_eq, cases_lt}
use Rattle.std.proofs.lemmas.Grind.{common_steps}
use Rattle.std.proofs.lemmas.List.{drop_all, get_or-replicate}
use Rattle.dc_names.specs.Words.{word_of}
use Rattle.dc_plain.specs.Facts.{Fact, Key, key_of}
use Rattle.dc_plain.specs.Facts.Label.{Entry, Parent, Text}
use Rattle.dc_plain.specs.Facts.Fact.{Leads, Reads}
use Rattle.dc_plain.specs.Trees.{Tree}
use Rattle.dc_row.specs.Narrow.{words_for}
use Rattle.dc_row.specs.Spelling.{Fields, Spells, fields_of, has_room, has_spelling, text_word, word_at}
use Rattle.dc_names.specs.declared.limits.TheConstants.{ROW_WORDS, ROW_TEXT}
use Rattle.dc_row.specs.declared.TheConstants.{EMPTY_ROW}
use Rattle.dc_index.specs.Slots.{Slot, slot_of, most_bytes}
use Rattle.dc_index.specs.Slots.Slot.{Free, Retired, Holds as Held}
use Rattle.dc_shrink.specs.Listings.{Listing}
use Rattle.dc_events.specs.Rows.{base_of, row_words}
use Rattle.dc_table.specs.Rows.{FitsSlot, Rest}
use Rattle.dc_rows.specs.Narrow.{ZeroFrom, HasFrom, AreNarrow, most_words}
use Rattle.dc_rows.specs.Rows.{Writing}
use Rattle.dc_rows.proofs.Cells.{at_cell}

word_at-text : (f : Fields) (i : ℕ) → 4 ≤ i → word_at f i ≡ text_word f.text (i - 4)
word_at-text f i late =
    let one : (i == 1) ≡ false = grind (arith, common_steps) in
    let two : (i == 2) ≡ false = grind (arith, common_steps) in
    let three : (i == 3) ≡ false = grind (arith, common_steps) in
    rw (one, two, three) refl

word_past : (text : List ℕ) (k : ℕ) → length text ≤ 8 * k → text_word text k ≡ 0
unfolding word_of
word_past text k past = ap (λ (xs : List ℕ). word_of (take 8 xs)) (drop_all (8 * k) text past)

-- words that spell a fact are zero past those of its text
pub past_text : (words : List ℕ) (fact : Option Fact) → Spells words fact → (end : ℕ) → min (words_for (length (fields_of fact).text)) ROW_WORDS ≤ end → ZeroFrom end words
past_text words fact s end late = record {
  zeros = λ i some past few. s.spelled i some few ∙ (word_at-text (fields_of fact) i (omega arith) ∙ word_past (fields_of fact).text (i - 4) (omega arith));
}

all_none : (a b c : Bool) (n : ℕ) → n ≡ 0 → cond a 0 (cond b 0 (cond c 0 n)) ≡ 0
all_none true b c n e = refl
all_none false true c n e = refl
all_none false false true n e = refl
all_none false false false n e = e

no_word : (i : ℕ) → word_at (fields_of None) i ≡ 0
no_word i = all_none (i == 1) (i == 2) (i == 3) (text_word [] (i - 4)) (word_past [] (i - 4) (omega arith))

-- words that spell none are all zero
pub past_nothing : (words : List ℕ) → Spells words None → (end : ℕ) → ZeroFrom end words
past_nothing words s end = record { zeros = λ i some past few. s.spelled i some few ∙ no_word i }

pub past_empty : (end : ℕ) → ZeroFrom end EMPTY_ROW
past_empty end = record { zeros = λ i some past few. get_or-replicate ROW_WORDS i 0 0 few }

room_of : (text : List ℕ) → has_room text ≡ true → length text ≤ ROW_TEXT
room_of text room = grind (arith, common_steps)

-- the text of a fact that a row can tell has no more bytes than its key says
text_of_key : (fact : Fact) → has_spelling (Some fact) ≡ true → length (fields_of (Some fact)).text ≤ most_bytes (key_of fact).label
text_of_key (Leads d (Entry name) target) ok = omega arith
text_of_key (Leads d Parent target) ok = omega arith
text_of_key (Leads d Text target) ok = absurd (cc)
text_of_key (Reads n text) ok = room_of text (and_parts _ _ ok).1

-- a row that fits its slot
pub fits_narrow : (t : Tree) (row : List ℕ) (slot : Slot) → FitsSlot t row slot → ZeroFrom (most_words slot) row
fits_narrow t row Free fits = past_nothing row fits _
fits_narrow t row Retired fits = past_nothing row fits _
fits_narrow t row (Held key) fits =
    let few = text_of_key fits.fact fits.spelled.allowed in let about = ap (λ (k : Key). most_bytes k.label) fits.about in
    past_text row (Some fits.fact) fits.spelled _ (omega arith)

pub rest_narrow : (t : Tree) (rows : ℕ) (words : List ℕ) (slots : List Slot) (used : Listing) → Rest t rows words slots used → AreNarrow rows words slots
rest_narrow t rows words slots used s row inside = let a = s.rest row inside in record {
  zeros = λ i some past few. ∥∥₁_elim (a.fits (a.even (λ key e never. never))) (ℕ_set (get_or (row_words words row) i 0) 0)
      (λ f. (fits_narrow t (row_words words row) (slot_of slots row) f).zeros i some past few);
}

-- one row and its slot change
pub narrow_moved : (rows : ℕ) (words ws : List ℕ) (slots ss : List Slot) (row : ℕ) → ((r : ℕ) → r ≢ row → row_words ws r ≡ row_words words r) → ((r : ℕ) → r ≢ row → slot_of ss r ≡ slot_of slots r)
    → ZeroFrom (most_words (slot_of ss row)) (row_words ws row) → AreNarrow rows words slots → AreNarrow rows ws ss
narrow_moved rows words ws slots ss row others beside here are r l = elim (cases_eq r row) [
  | inl e ↦ subst (λ (x : ℕ). ZeroFrom (most_words (slot_of ss x)) (row_words ws x)) (sym e) here
  | inr ne ↦ subst₂ (λ (x : List ℕ) (y : Slot). ZeroFrom (most_words y) x) (sym (others r ne)) (sym (beside r ne)) (are r l)
]

-- its count changes, and none of its other words
pub narrow_raised : (words : List ℕ) (row x end : ℕ) → ZeroFrom end (row_words words row) → ZeroFrom end (row_words (set words (base_of row) x) row)
narrow_raised words row x end z = record {
  zeros = λ i some past few. at_cell (set words (base_of row) x) row i few ∙ (get_or-set_other words (base_of row) (base_of row + i) x 0 (λ e. omega arith) ∙ (sym (at_cell words row i few) ∙ z.zeros i some past few));
}

-- if the row and the words are zero they are the same
pub has_zeros : (table : List ℕ) (row : ℕ) (own : List ℕ) (end : ℕ) → end ≤ ROW_WORDS → ZeroFrom end (row_words table row) → ZeroFrom end own → HasFrom end table row own
has_zeros table row own end few z w = record { few = few; same = λ i some past lt. sym (at_cell table row i lt) ∙ (z.zeros i some past lt ∙ sym (w.zeros i some past lt)) }

pub zero_later : (a b : ℕ) (row : List ℕ) → a ≤ b → ZeroFrom a row → ZeroFrom b row
zero_later a b row le z = record { zeros = λ i some past few. z.zeros i some (omega arith) few }

-- a row that was written up to where it had the rest already is written whole
pub written_whole : (before after : List ℕ) (row : ℕ) (words : List ℕ) (i end : ℕ) → Writing before after row words i → HasFrom end before row words → end ≤ i → Writing before after row words ROW_WORDS
written_whole before after row words i end w h past = record {
  size = w.size;
  others = w.others;
  count = w.count;
  own = λ j some few. elim (cases_lt j i) [ inl l ↦ w.own j some l | inr late ↦ w.kept j late few ∙ h.same j some (omega arith) few ];
  kept = λ j late few. absurd (omega arith);
}
