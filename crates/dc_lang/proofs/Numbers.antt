-- A number is read from its decimal digits, and from nothing else.
use Rattle.std.proofs.Common.{◌≡◌, ℕ, ◌<◌, ◌≤◌, ◌≢◌, ◌^◌, ◌==◌, ◌&&◌, not, Bool, true, false, List, [], ◌∷◌, length, get_or, Some, None, Result, Ok, Err, refl, sym, ap, ◌∙◌, inl, inr, arith, cond}
use Rattle.std.specs.Fmt.{decimal}
use Rattle.std.specs.Prelude.{nat_lt}
use Rattle.std.specs.Str.{all_ascii_digits}
use Rattle.std.specs.Str.Parse.{digits_value, ParsesUnsigned}
use Rattle.std.specs.Str.{IsUtf8}
use Rattle.std.specs.Result.{result_ok, MatchResult}
use Rattle.std.specs.Borrow.{Bor}
use Rattle.std.proofs.lemmas.Bool.Decides.{nat_tests, eqb_tells, leb_tells}
use Rattle.std.proofs.lemmas.Fmt.{decimal_digit, decimal_nonempty, first_decimal, digits_decimal, digits_value-decimal, decimal-digits_value, IsAscii-from_digits}
use Rattle.std.proofs.lemmas.Str.{IsUtf8-from_ascii}
use Rattle.std.proofs.lemmas.Str.Parse.{IsNumeralModel, numerals_by_value, tells_all_ascii_digits, not_in_digits, parse_plain}
use Rattle.dc_lang.specs.ReadingReplies.{begins_plainly, is_numeral, number_in}
use Rattle.dc_lang.proofs.Words.{chosen}
use Rattle.dc_lang.proofs.Parts.{HasNoSpace}

pub numerals : IsNumeralModel (λ ds. all_ascii_digits ds ≡ true) (digits_value 10)
numerals = numerals_by_value (λ ds. all_ascii_digits ds ≡ true) tells_all_ascii_digits

left : (a b : Bool) → (a && b) ≡ true → a ≡ true
left true b e = refl
left false b e = cc

right : (a b : Bool) → (a && b) ≡ true → b ≡ true
right true b e = e
right false b e = cc

both : (a b : Bool) → a ≡ true → b ≡ true → (a && b) ≡ true
both a b p q = cc

-- digits, and no zero in front of others
record Canonical (text : List ℕ) : Type 0 where
  pub digits : all_ascii_digits text ≡ true
  pub some : 0 < length text
  pub front : get_or text 0 0 ≡ 48 → length text ≡ 1

no_zero : (b : ℕ) → not (b == 48) ≡ true → b ≡ 48 → ⊥
no_zero b e is = grind (arith, nat_tests)

is_canonical : (text : List ℕ) → is_numeral text ≡ true → Canonical text
is_canonical [] e = cc
is_canonical (b ∷ []) e = record { digits = e; some = omega arith; front = λ _. refl }
is_canonical (b ∷ c ∷ ds) e = record {
  digits = right (not (b == 48)) (all_ascii_digits (b ∷ c ∷ ds)) e;
  some = omega arith;
  front = λ zero. absurd (no_zero b (left (not (b == 48)) (all_ascii_digits (b ∷ c ∷ ds)) e) zero);
}

from_canonical : (text : List ℕ) → Canonical text → is_numeral text ≡ true
from_canonical [] is = let some = is.some in absurd (omega arith)
from_canonical (b ∷ []) is = is.digits
from_canonical (b ∷ c ∷ ds) is = both (not (b == 48)) (all_ascii_digits (b ∷ c ∷ ds)) nonzero is.digits
  where
    nonzero : not (b == 48) ≡ true
    nonzero = elim (eqb_tells b 48) [
      | inl zero ↦ let one = is.front zero.1 in absurd (omega arith)
      | inr other ↦ ap not other.0
    ]

-- what `decimal` writes begins with no zero, unless it is one
decimal_front : (n : ℕ) → n < 2 ^ 64 → get_or (decimal n) 0 0 ≡ 48 → length (decimal n) ≡ 1
decimal_front n h zero = elim (leb_tells n 9) [
  | inl small ↦ ap length (decimal_digit n (omega arith))
  | inr large ↦ let above = first_decimal n (omega arith) h in absurd (omega arith)
]

is_numeral-decimal : (n : ℕ) → n < 2 ^ 64 → is_numeral (decimal n) ≡ true
is_numeral-decimal n h = from_canonical (decimal n) (record { digits = digits_decimal numerals n h; some = decimal_nonempty n h; front = decimal_front n h })

below : (n : ℕ) → n < 2 ^ 64 → nat_lt n (2 ^ 64) ≡ true
below n h = grind (arith, nat_tests)

below_is : (n : ℕ) → nat_lt n (2 ^ 64) ≡ true → n < 2 ^ 64
below_is n e = grind (arith, nat_tests)

pub number_in-decimal : (n : ℕ) → n < 2 ^ 64 → number_in (decimal n) ≡ Some n
unfolding number_in
number_in-decimal n h =
    let value = digits_value-decimal numerals n h in
    let fits = ap (λ v. nat_lt v (2 ^ 64)) value ∙ below n h in
    let test = both (is_numeral (decimal n)) (nat_lt (digits_value 10 (decimal n)) (2 ^ 64)) (is_numeral-decimal n h) fits in
    ap (λ t. cond t (Some (digits_value 10 (decimal n))) None) test ∙ ap Some value

pub number_in_spells : (text : List ℕ) (n : ℕ) → number_in text ≡ Some n → (n < 2 ^ 64) × (decimal n ≡ text)
unfolding number_in
number_in_spells text n e = elim (chosen (is_numeral text && nat_lt (digits_value 10 text) (2 ^ 64)) (Some (digits_value 10 text)) None (Some n) e) [
  | inl fits ↦ (let value : digits_value 10 text ≡ n = cc in
      let is = is_canonical text (left (is_numeral text) (nat_lt (digits_value 10 text) (2 ^ 64)) fits.0) in
      let low = below_is (digits_value 10 text) (right (is_numeral text) (nat_lt (digits_value 10 text) (2 ^ 64)) fits.0) in
      (omega arith, ap decimal (sym value) ∙ decimal-digits_value numerals text is.digits is.some is.front low))
  | inr other ↦ cc
]

digit_no_space : (b : ℕ) → Rattle.std.specs.Char.is_ascii_digit b ≡ true → (b == 32) ≡ false
digit_no_space b e = grind (arith, nat_tests)

digits_no_space : (text : List ℕ) → all_ascii_digits text ≡ true → HasNoSpace text
digits_no_space [] e = tt
digits_no_space (b ∷ text) e =
    (digit_no_space b (left (Rattle.std.specs.Char.is_ascii_digit b) (all_ascii_digits text) e), digits_no_space text (right (Rattle.std.specs.Char.is_ascii_digit b) (all_ascii_digits text) e))

pub HasNoSpace-decimal : (n : ℕ) → n < 2 ^ 64 → HasNoSpace (decimal n)
HasNoSpace-decimal n h = digits_no_space (decimal n) (digits_decimal numerals n h)

-- what differs read
none_if : (text : List ℕ) → (is_numeral text ≡ true → ⊥) → number_in text ≡ None
unfolding number_in
none_if text not_so = go (is_numeral text) refl
  where
    go : (b : Bool) → is_numeral text ≡ b → cond (b && nat_lt (digits_value 10 text) (2 ^ 64)) (Some (digits_value 10 text)) None ≡ None
    go true e = absurd (not_so e)
    go false e = refl

not_true : (b : Bool) → not b ≡ true → b ≡ false
not_true true e = cc
not_true false e = refl

number_differs : (m n : ℕ) → (m == n) ≡ false → m ≡ n → ⊥
number_differs m n e is = grind (arith, nat_tests)

no_plus : (text : List ℕ) → is_numeral text ≡ true → get_or text 0 0 ≡ 43 → ⊥
no_plus text e plus = let is = is_canonical text e in not_in_digits numerals text 43 is.digits (λ range. omega arith) 0 is.some plus

numeral_begins : (text : List ℕ) → is_numeral text ≡ true → begins_plainly text ≡ true
numeral_begins [] e = cc
numeral_begins (b ∷ []) e = elim (eqb_tells b 43) [ inl plus ↦ absurd (no_plus (b ∷ []) e plus.1) | inr other ↦ ap not other.0 ]
numeral_begins (b ∷ c ∷ ds) e = elim (eqb_tells b 43) [
  | inl plus ↦ absurd (no_plus (b ∷ c ∷ ds) e plus.1)
  | inr other ↦ both (not (b == 43)) (not (b == 48)) (ap not other.0) (left (not (b == 48)) (all_ascii_digits (b ∷ c ∷ ds)) e)
]

pub begins_oddly : (text : List ℕ) → begins_plainly text ≡ false → number_in text ≡ None
begins_oddly text odd = none_if text (λ e. let both_ways : true ≡ false = sym (numeral_begins text e) ∙ odd in cc)

no_plus_in : (text : List ℕ) → begins_plainly text ≡ true → get_or text 0 0 ≢ 43
no_plus_in [] e = cc
no_plus_in (b ∷ []) e = number_differs b 43 (not_true (b == 43) e)
no_plus_in (b ∷ c ∷ ds) e = number_differs b 43 (not_true (b == 43) (left (not (b == 43)) (not (b == 48)) e))

no_zero_in : (text : List ℕ) → begins_plainly text ≡ true → get_or text 0 0 ≡ 48 → length text ≤ 1
no_zero_in [] e zero = omega arith
no_zero_in (b ∷ []) e zero = omega arith
no_zero_in (b ∷ c ∷ ds) e zero = absurd (number_differs b 48 (not_true (b == 48) (right (not (b == 43)) (not (b == 48)) e)) zero)

pub no_text : (text : List ℕ) → (IsUtf8 text → ⊥) → number_in text ≡ None
no_text text bad = none_if text (λ e. bad (IsUtf8-from_ascii text (IsAscii-from_digits text (numerals.to text (is_canonical text e).digits))))

parsed_plainly : (E : Type 0) (text : List ℕ) (r : Result ℕ E) → ParsesUnsigned 64 10 text r → get_or text 0 0 ≢ 43 → (get_or text 0 0 ≡ 48 → length text ≤ 1) → result_ok r ≡ number_in text
unfolding number_in
parsed_plainly E text (Ok n) h no_plus front =
    let read = parse_plain numerals {E = E} 64 text (Ok n) h no_plus in
    let is : Canonical text = record { digits = read.0.0; some = read.0.1; front = λ zero. let one = front zero in let some = read.0.1 in omega arith } in
    let test = both (is_numeral text) (nat_lt (digits_value 10 text) (2 ^ 64)) (from_canonical text is) (below (digits_value 10 text) read.0.2) in
    ap Some read.1 ∙ sym (ap (λ t. cond t (Some (digits_value 10 text)) None) test)
parsed_plainly E text (Err e) h no_plus front = go (is_numeral text && nat_lt (digits_value 10 text) (2 ^ 64)) refl
  where
    go : (b : Bool) → (is_numeral text && nat_lt (digits_value 10 text) (2 ^ 64)) ≡ b → None ≡ cond b (Some (digits_value 10 text)) None
    go false same = refl
    go true same =
        let is = is_canonical text (left (is_numeral text) (nat_lt (digits_value 10 text) (2 ^ 64)) same) in
        let low = below_is (digits_value 10 text) (right (is_numeral text) (nat_lt (digits_value 10 text) (2 ^ 64)) same) in
        absurd (parse_plain numerals {E = E} 64 text (Err e) h no_plus (is.digits, is.some, low))

pub parsed : (E : Type 0) (text : List ℕ) (r : Result ℕ E) → ParsesUnsigned 64 10 text r → begins_plainly text ≡ true → result_ok r ≡ number_in text
parsed E text r h plain = parsed_plainly E text r h (no_plus_in text plain) (no_zero_in text plain)

pub refused_text : {S F : Type 0} (text : List ℕ) (r : Result S F) (P : S → Type 0) (V : F → Type 0) → MatchResult r P (λ e. (IsUtf8 text → ⊥) × V e) → None ≡ result_ok r → IsUtf8 text → ⊥
refused_text text (Ok s) P V h none = cc
refused_text text (Err e) P V h none = h.0

pub text_taken : {F : Type 0} (text : List ℕ) (s : Bor (List ℕ)) (r : Result (Bor (List ℕ)) F) (V : F → Type 0) → MatchResult r (λ s. (s.now ≡ text) × IsUtf8 text) V → Some s ≡ result_ok r → s.now ≡ text
text_taken text s (Ok t) V h some = let same : s ≡ t = cc in ap (λ (b : Bor (List ℕ)). b.now) same ∙ h.0
text_taken text s (Err e) V h some = cc

pub other_number : (m n : ℕ) → m ≢ n → (m == n) ≡ false
other_number m n other = elim (eqb_tells m n) [ inl same ↦ absurd (other same.1) | inr apart ↦ apart.0 ]
