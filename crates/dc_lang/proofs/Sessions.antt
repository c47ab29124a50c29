-- A session is read from its decimal digits, and from nothing else.
use Rattle.std.proofs.Common.{◌≡◌, ℕ, ◌+◌, ◌/◌, ◌%◌, ◌<◌, ◌≤◌, List, [], ◌∷◌, ◌++◌, Some, refl, sym, ap, ◌∙◌, ◌⊎◌, inl, inr, arith, lit<, subst}
use Rattle.std.specs.Fmt.{decimal}
use Rattle.std.proofs.lemmas.Bool.Decides.{nat_tests, leb_tells}
use Rattle.std.proofs.lemmas.Fmt.{decimal_digit, decimal_step}
use Rattle.dc_lang.specs.Reading.{session_in}
use Rattle.dc_lang.proofs.Parts.{HasNoSpace}

two_digits : (n : ℕ) → 10 ≤ n → n ≤ 15 → decimal n ≡ 49 ∷ (38 + n) ∷ []
two_digits n low high =
    let ten : n / 10 ≡ 1 = omega arith in
    let one : n % 10 + 10 ≡ n = omega arith in
    let last : 48 + n % 10 ≡ 38 + n = omega arith in
    decimal_step n low (omega arith) ∙ ap (λ d. decimal d ++ (48 + n % 10) ∷ []) ten ∙ ap (λ d. d ++ (48 + n % 10) ∷ []) (decimal_digit 1 (lit< tt)) ∙ ap (λ d. 49 ∷ d ∷ []) last

-- one digit, or two
session_digits : (n : ℕ) → n ≤ 15 → ((n ≤ 9) × (decimal n ≡ (48 + n) ∷ [])) ⊎ ((10 ≤ n) × (decimal n ≡ 49 ∷ (38 + n) ∷ []))
session_digits n h = elim (leb_tells n 9) [
  | inl one ↦ inl (one.1, decimal_digit n (omega arith))
  | inr two ↦ inr (omega arith, two_digits n (omega arith) h)
]

pub session_in-decimal : (n : ℕ) → n < 16 → session_in (decimal n) ≡ Some n
session_in-decimal n h = elim (session_digits n (omega arith)) [
  | inl one ↦ ap session_in one.1 ∙ grind (arith, nat_tests)
  | inr two ↦ ap session_in two.1 ∙ grind (arith, nat_tests)
]

pub HasNoSpace-session : (n : ℕ) → n < 16 → HasNoSpace (decimal n)
HasNoSpace-session n h = elim (session_digits n (omega arith)) [
  | inl one ↦ subst HasNoSpace (sym one.1) (grind (arith, nat_tests), tt)
  | inr two ↦ subst HasNoSpace (sym two.1) (refl, (grind (arith, nat_tests), tt))
]

one_digit : (a n : ℕ) → session_in (a ∷ []) ≡ Some n → (n ≤ 9) × (48 + n ≡ a)
one_digit a n e = (grind (arith, nat_tests), grind (arith, nat_tests))

teen : (a b n : ℕ) → session_in (a ∷ b ∷ []) ≡ Some n → (a ≡ 49) × (10 ≤ n) × (n ≤ 15) × (38 + n ≡ b)
teen a b n e = (grind (arith, nat_tests), grind (arith, nat_tests), grind (arith, nat_tests), grind (arith, nat_tests))

pub session_in_spells : (text : List ℕ) (n : ℕ) → session_in text ≡ Some n → (n < 16) × (decimal n ≡ text)
session_in_spells [] n e = cc
session_in_spells (a ∷ []) n e =
    let digit = one_digit a n e in
    (omega arith, decimal_digit n (omega arith) ∙ ap (λ d. d ∷ []) digit.1)
session_in_spells (a ∷ b ∷ []) n e =
    let digits = teen a b n e in
    (omega arith, two_digits n digits.1 digits.2 ∙ cc)
session_in_spells (a ∷ b ∷ c ∷ text) n e = cc
