-- A row that is compared with a short text while it is read.
use Rattle.std.proofs.Common.{◌≡◌, ◌≢◌, ℕ, zero, suc, ◌+◌, ◌-◌, ◌<◌, ◌≤◌, ◌↔◌, bit_or, bit_xor, List, [], ◌∷◌, ◌++◌, Some, inl, inr, length, get_or, take, refl, ap, ap₂, sym, ◌∙◌, subst, arith, length-append}
use Rattle.std.proofs.Math.Seq.{get_or-append_seam}
use Rattle.std.proofs.lemmas.Bool.{cases_eq, cases_lt}
use Rattle.std.proofs.lemmas.List.{get_or_append_left}
use Rattle.std.proofs.lemmas.Nat.{and_le_l, and_le_r, le_or_l, le_or_r}
use Rattle.std.specs.Int.Bits.{or_zero_l, xor_add_and, xor_self}
use Rattle.dc_plain.specs.Facts.{Fact, Key, Label, key_of, label_bytes}
use Rattle.dc_plain.specs.Facts.Label.{Entry, Parent, Text}
use Rattle.dc_plain.specs.Facts.Fact.{Leads, Reads}
use Rattle.dc_names.specs.declared.limits.TheConstants.{ROW_WORDS}
use Rattle.dc_row.specs.declared.short.TheConstants.{SHORT_TEXT, SHORT_WORDS}
use Rattle.dc_row.specs.Short.{HasHead, HasText}
use Rattle.dc_row.specs.Spelling.{fields_of, text_word}
use Rattle.dc_events.specs.Views.{View}
use Rattle.dc_events.specs.Effects.{read}
use Rattle.dc_table.specs.Passes.{Pass, view, Fits, IsWalkerAt, StaysOut}
use Rattle.dc_table.specs.Walking.{CanRead}
use Rattle.dc_table.specs.declared.shared.Shared.{Shared}
use Rattle.dc_walk.specs.Probes.{probed, row_of, AreZero, IsShort, IsText, MayReadOn, ReadsTop}
use Rattle.dc_walk.specs.declared.probe.Noted.{Noted}
use Rattle.dc_walk.specs.declared.probe.Top.{Top}
use Rattle.dc_walk.proofs.Probed.{can_go_on, goes_on}
use Rattle.dc_walk.proofs.Seats.{fits_still, row_still, stays_again}

-- this many words behind the value were read, and what is known of them says whether they are the text's
pub record ReadsSome (v w : View) (row : ℕ) (top : Top) (text : List ℕ) (value n : ℕ) (Its : Type 0) : Type 0 where
  pub rest : List ℕ
  pub size : length rest ≡ n
  pub read : w ≡ probed v row top.count (top.head ∷ top.number ∷ value ∷ rest)
  pub its : Its ↔ IsText text rest

-- so it is whatever the view was before the top was read, and the pass stays out of the lock
pub record ReadsOn (t : Shared) (p q : Pass) (noted : Noted) (text : List ℕ) (value n : ℕ) (Its : Type 0) : Type 0 where
  pub fits : Fits t q
  pub stays : StaysOut p q
  pub read : (v : View) → ReadsTop v (view p) noted.row noted.top → ReadsSome v (view q) noted.row noted.top text value n Its

module _ {t : Shared} {p q : Pass} {noted : Noted} where
  -- after the value no word was compared yet
  pub reads_value : MayReadOn t p noted → (text : List ℕ) → StaysOut p q → (value : ℕ) → view q ≡ read (view p) value → {Its : Type 0} → Its → ReadsOn t p q noted text value 0 Its
  reads_value on text stays value is its = record {
    fits = fits_still on.walker.fits stays.same;
    stays = stays;
    read = λ v h. record {
      rest = [];
      size = refl;
      read = goes_on v noted.row noted.top.count (noted.top.head ∷ noted.top.number ∷ []) h (view q) value is;
      its = (λ yes. record { first = λ i l. absurd (omega arith); past = λ i l. absurd (omega arith) }, λ text. its);
    };
  }

  module _ {text : List ℕ} {value n : ℕ} {Its : Type 0} where
    -- a word more may be read
    pub can_read_on : MayReadOn t p noted → (i : ℕ) → ReadsOn t p q noted text value n Its → i ≡ 4 + n → i < ROW_WORDS → IsWalkerAt t q noted.row × CanRead (view q) noted.row i
    can_read_on on i so at few = let r = on.reading in let s = so.read r.before r.read in let size = s.size in (
      record { fits = so.fits; idle = so.stays.idle; inside = row_still on.walker.inside so.stays.same },
      can_go_on r.before noted.row noted.top.count (noted.top.head ∷ noted.top.number ∷ value ∷ s.rest) s.read r.early i (omega arith) few,
    )

    pub reads_more : (m : ℕ) → m ≡ n + 1 → ReadsOn t p q noted text value n Its → {r : Pass} → StaysOut q r → (w : ℕ) → view r ≡ read (view q) w → {More : Type 0} → ((rest : List ℕ) → length rest ≡ n → (Its ↔ IsText text rest) → More ↔ IsText text (rest ++ w ∷ [])) → ReadsOn t p r noted text value m More
    reads_more m next so {r = r} out w is its = record {
      fits = fits_still so.fits out.same;
      stays = stays_again so.stays out;
      read = λ v h. let s = so.read v h in let size = s.size in let more = length-append s.rest (w ∷ []) in record {
        rest = s.rest ++ w ∷ [];
        size = omega arith;
        read = goes_on v noted.row noted.top.count (noted.top.head ∷ noted.top.number ∷ value ∷ s.rest) s.read (view r) w is;
        its = its s.rest s.size s.its;
      };
    }

    pub reads_to : (m : ℕ) → n ≡ m → ReadsOn t p q noted text value n Its → ReadsOn t p q noted text value m Its
    reads_to m same so = subst (λ (k : ℕ). ReadsOn t p q noted text value k Its) same so

-- words that have no other bits are the same
pub same_from_zero : (a b : ℕ) → bit_xor a b ≡ 0 → a ≡ b
same_from_zero a b none = omega (arith, xor_add_and a b, and_le_l a b, and_le_r a b)

-- nothing differed, and no bit of one word more does, if that is the same as another
pub differ_zero : (before w t : ℕ) → (bit_or before (bit_xor w t) ≡ 0) ↔ ((before ≡ 0) × (w ≡ t))
differ_zero before w t = let left = le_or_l before (bit_xor w t) in let right = le_or_r before (bit_xor w t) in (
  λ q. (omega arith, same_from_zero w t (omega arith)),
  λ both. ap₂ bit_or both.0 (ap (λ (k : ℕ). bit_xor k t) both.1 ∙ xor_self t) ∙ or_zero_l 0,
)

-- one word more, which is the text's, or one past it
module _ (text rest : List ℕ) (w : ℕ) where
  size : length (rest ++ w ∷ []) ≡ length rest + 1
  size = length-append rest (w ∷ [])

  before : (i : ℕ) → i < length rest → get_or (rest ++ w ∷ []) i 0 ≡ get_or rest i 0
  before i l = get_or_append_left rest (w ∷ []) 0 i l

  last : get_or (rest ++ w ∷ []) (length rest) 0 ≡ w
  last = get_or-append_seam rest w [] 0

  -- what holds of each word so far, and of this one
  each : (P : ℕ → ℕ → Type 0) → ((i : ℕ) → i < length rest → P i (get_or rest i 0)) → P (length rest) w → (i : ℕ) → i < length (rest ++ w ∷ []) → P i (get_or (rest ++ w ∷ []) i 0)
  each P all here i l = let is = size in elim (cases_eq i (length rest)) [ inl same ↦ subst (λ (k : ℕ). P k (get_or (rest ++ w ∷ []) k 0)) (sym same) (subst (P (length rest)) (sym last) here) | inr other ↦ subst (P i) (sym (before i (omega arith))) (all i (omega arith)) ]

  old : IsText text (rest ++ w ∷ []) → IsText text rest
  old is = record {
    first = λ i l few. sym (before i l) ∙ is.first i (let s = size in omega arith) few;
    past = λ i l many. sym (before i l) ∙ is.past i (let s = size in omega arith) many;
  }

  pub first_more : length rest < SHORT_WORDS → {P Q : Type 0} → (P ↔ IsText text rest) → (Q ↔ (P × (w ≡ get_or text (length rest) 0))) → Q ↔ IsText text (rest ++ w ∷ [])
  first_more few so step = (
    λ q. let both = step.0 q in let is = so.0 both.0 in record {
      first = each (λ i x. i < SHORT_WORDS → x ≡ get_or text i 0) is.first (λ l. both.1);
      past = each (λ i x. SHORT_WORDS ≤ i → x ≡ 0) is.past (λ many. absurd (omega arith));
    },
    λ is. step.1 (so.1 (old is), sym last ∙ is.first (length rest) (let s = size in omega arith) few),
  )

  pub past_more : SHORT_WORDS ≤ length rest → {P Q : Type 0} → (P ↔ IsText text rest) → (Q ↔ (P × (w ≡ 0))) → Q ↔ IsText text (rest ++ w ∷ [])
  past_more many so step = (
    λ q. let both = step.0 q in let is = so.0 both.0 in record {
      first = each (λ i x. i < SHORT_WORDS → x ≡ get_or text i 0) is.first (λ l. absurd (omega arith));
      past = each (λ i x. SHORT_WORDS ≤ i → x ≡ 0) is.past (λ l. both.1);
    },
    λ is. step.1 (so.1 (old is), sym last ∙ is.past (length rest) (let s = size in omega arith) many),
  )

  -- words that are all zero
  pub zero_more : {P Q : Type 0} → (P ↔ AreZero rest) → (Q ↔ (P × (w ≡ 0))) → Q ↔ AreZero (rest ++ w ∷ [])
  zero_more so step = (
    λ q. let both = step.0 q in each (λ i x. x ≡ 0) (so.0 both.0) both.1,
    λ all. step.1 (so.1 (λ i l. sym (before i l) ∙ all i (let s = size in omega arith)), sym last ∙ all (length rest) (let s = size in omega arith)),
  )

module _ (top : Top) (value : ℕ) (rest : List ℕ) where
  pub row_size : length rest + 4 ≡ ROW_WORDS → length (row_of top value rest) ≡ ROW_WORDS
  row_size size = let is : suc (suc (suc (suc (length rest)))) ≡ ROW_WORDS = omega arith in is

  pub has_head : length rest + 4 ≡ ROW_WORDS → HasHead (row_of top value rest) top.head top.number value
  has_head size = record { size = row_size size; head = refl; number = refl; value = refl }

  behind : (i : ℕ) → 4 ≤ i → get_or (row_of top value rest) i 0 ≡ get_or rest (i - 4) 0
  behind zero l = absurd (omega arith)
  behind (suc zero) l = absurd (omega arith)
  behind (suc (suc zero)) l = absurd (omega arith)
  behind (suc (suc (suc zero))) l = absurd (omega arith)
  behind (suc (suc (suc (suc i)))) l = let same : suc (suc (suc (suc i))) - 4 ≡ i = omega arith in ap (λ (k : ℕ). get_or rest k 0) (sym same)

  -- the words of a text in a row, by those of the text
  module _ (bytes text : List ℕ) (size : length rest + 4 ≡ ROW_WORDS) (words : (i : ℕ) → i < SHORT_WORDS → get_or text i 0 ≡ text_word bytes i) (past : (i : ℕ) → SHORT_WORDS ≤ i → text_word bytes i ≡ 0) where
    pub has_text : IsText text rest → HasText (row_of top value rest) bytes
    has_text is i some few = behind i some ∙ elim (cases_lt (i - 4) SHORT_WORDS) [ inl short ↦ is.first (i - 4) (omega arith) short ∙ words (i - 4) short | inr long ↦ is.past (i - 4) (omega arith) long ∙ sym (past (i - 4) long) ]

    word_at : HasText (row_of top value rest) bytes → (i : ℕ) → i < length rest → get_or rest i 0 ≡ text_word bytes i
    word_at has i l =
        let at : i + 4 - 4 ≡ i = omega arith in
        subst (λ (k : ℕ). get_or rest k 0 ≡ text_word bytes k) at (sym (behind (i + 4) (omega arith)) ∙ has (i + 4) (omega arith) (omega arith))

    pub is_text : HasText (row_of top value rest) bytes → IsText text rest
    is_text has = record {
      first = λ i l few. word_at has i l ∙ sym (words i few);
      past = λ i l many. word_at has i l ∙ past i many;
    }

-- the first eight words of such a row
pub first_eight : (top : Top) (value : ℕ) (text rest : List ℕ) → length rest + 4 ≡ ROW_WORDS → IsText text rest → take 8 (row_of top value rest) ≡ top.count ∷ top.head ∷ top.number ∷ value ∷ get_or text 0 0 ∷ get_or text 1 0 ∷ get_or text 2 0 ∷ get_or text 3 0 ∷ []
first_eight top value text [] size is = absurd (omega (arith, size))
first_eight top value text (a ∷ []) size is = absurd (omega (arith, size))
first_eight top value text (a ∷ b ∷ []) size is = absurd (omega (arith, size))
first_eight top value text (a ∷ b ∷ c ∷ []) size is = absurd (omega (arith, size))
first_eight top value text (a ∷ b ∷ c ∷ d ∷ rest) size is = λ i. top.count ∷ top.head ∷ top.number ∷ value ∷ is.first 0 (omega arith) (omega arith) i ∷ is.first 1 (omega arith) (omega arith) i ∷ is.first 2 (omega arith) (omega arith) i ∷ is.first 3 (omega arith) (omega arith) i ∷ []

-- the text of a row of a key's entry
pub text_of_key : (fact : Fact) (key : Key) → key_of fact ≡ key → key.label ≢ Text → (fields_of (Some fact)).text ≡ label_bytes key.label
text_of_key (Leads d label target) key about other = ap (λ (k : Key). label_bytes k.label) about
text_of_key (Reads n text) key about other = absurd (other (sym (ap (λ (k : Key). k.label) about)))

-- a short name is no text, and isn't long
pub short_entry : (label : Label) → IsShort label → label ≢ Text
short_entry (Entry name) is = λ same. absurd cc
short_entry Parent is = absurd is
short_entry Text is = absurd is

pub short_size : (label : Label) → IsShort label → length (label_bytes label) ≤ SHORT_TEXT
short_size (Entry name) is = is
short_size Parent is = absurd is
short_size Text is = absurd is
