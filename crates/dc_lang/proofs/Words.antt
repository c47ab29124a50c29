-- A word is read from its spelling, and from nothing else.
use Rattle.std.proofs.Common.{◌≡◌, ℕ, List, [], ◌∷◌, ◌++◌, Option, Some, None, map, refl, sym, ap, ◌∙◌, codes, Bool, true, false, ◌==◌, arith, cond, ◌⊎◌, inl, inr}
use Rattle.std.specs.List.{flat_map}
use Rattle.std.specs.Str.{bytes_eq}
use Rattle.std.proofs.lemmas.Bool.Decides.{nat_tests, eqb_tells, Decides-eqb}
use Rattle.std.proofs.lemmas.Slice.Eq.{bytes_eq-Decides}
use Rattle.dc_lang.specs.Words.{spelled, spelled_byte}
use Rattle.dc_lang.specs.Reading.{escaped, unescaped, with_first, bytes_in, word_in, words_in}

escaped_spells : (c b : ℕ) → escaped c ≡ Some b → spelled_byte b ≡ 92 ∷ c ∷ []
escaped_spells c b e = grind (arith, nat_tests)

unescaped_spells : (c b : ℕ) → unescaped c ≡ Some b → spelled_byte b ≡ c ∷ []
unescaped_spells c b e = grind (arith, nat_tests)

with_first_some : {A : Type 0} (first : Option A) (rest : Option (List A)) (all : List A) → with_first first rest ≡ Some all
    → (x : A) × (xs : List A) × (first ≡ Some x) × (rest ≡ Some xs) × (all ≡ x ∷ xs)
with_first_some None rest all e = cc
with_first_some (Some x) None all e = cc
with_first_some (Some x) (Some xs) all e = (x, xs, refl, refl, cc)

-- a byte is spelled by a letter behind a backslash, or by itself
pub spells : (b : ℕ) → ((c : ℕ) × (escaped c ≡ Some b) × (spelled_byte b ≡ 92 ∷ c ∷ [])) ⊎ ((unescaped b ≡ Some b) × (spelled_byte b ≡ b ∷ []))
spells b = elim (eqb_tells b 32) [
  | inl space ↦ inl (115, ap Some (sym space.1), grind (arith, nat_tests))
  | inr other ↦ elim (eqb_tells b 10) [
    | inl newline ↦ inl (110, ap Some (sym newline.1), grind (arith, nat_tests))
    | inr other_still ↦ elim (eqb_tells b 92) [
      | inl backslash ↦ inl (92, ap Some (sym backslash.1), grind (arith, nat_tests))
      | inr itself ↦ inr (grind (arith, nat_tests), grind (arith, nat_tests))
    ]
  ]
]

no_backslash : (b : ℕ) → unescaped b ≡ Some b → (b == 92) ≡ false
no_backslash b e = grind (arith, nat_tests)

bytes_in-cons : (b : ℕ) (text : List ℕ) → unescaped b ≡ Some b → bytes_in (b ∷ text) ≡ with_first (Some b) (bytes_in text)
bytes_in-cons b [] e = ap (λ first. with_first first (Some [])) e
bytes_in-cons b (c ∷ text) e =
    ap (λ backslash. cond backslash (with_first (escaped c) (bytes_in text)) (with_first (unescaped b) (bytes_in (c ∷ text)))) (no_backslash b e)
    ∙ ap (λ first. with_first first (bytes_in (c ∷ text))) e

bytes_in-spelled_byte : (b : ℕ) (text : List ℕ) → bytes_in (spelled_byte b ++ text) ≡ with_first (Some b) (bytes_in text)
bytes_in-spelled_byte b text = elim (spells b) [
  | inl letter ↦ ap (λ front. bytes_in (front ++ text)) letter.2 ∙ ap (λ first. with_first first (bytes_in text)) letter.1
  | inr itself ↦ ap (λ front. bytes_in (front ++ text)) itself.1 ∙ bytes_in-cons b text itself.0
]

bytes_in-spelled : (bytes : List ℕ) → bytes_in (flat_map spelled_byte bytes) ≡ Some bytes
bytes_in-spelled [] = refl
bytes_in-spelled (b ∷ bytes) = bytes_in-spelled_byte b (flat_map spelled_byte bytes) ∙ ap (with_first (Some b)) (bytes_in-spelled bytes)

pub chosen : {A : Type 0} (test : Bool) (x y z : A) → cond test x y ≡ z → ((test ≡ true) × (x ≡ z)) ⊎ ((test ≡ false) × (y ≡ z))
chosen true x y z e = inl (refl, e)
chosen false x y z e = inr (refl, e)

-- the first byte and the rest are spelled
front_spells : (front text bytes : List ℕ) (first : Option ℕ) (rest : Option (List ℕ)) → with_first first rest ≡ Some bytes
    → ((b : ℕ) → first ≡ Some b → spelled_byte b ≡ front) → ((more : List ℕ) → rest ≡ Some more → flat_map spelled_byte more ≡ text)
    → flat_map spelled_byte bytes ≡ front ++ text
front_spells front text bytes first rest e spelling more =
    let parts = with_first_some first rest bytes e in
    ap (flat_map spelled_byte) parts.4 ∙ ap (λ x. x ++ flat_map spelled_byte parts.1) (spelling parts.0 parts.2) ∙ ap (λ x. front ++ x) (more parts.1 parts.3)

bytes_in_spells : (text bytes : List ℕ) → bytes_in text ≡ Some bytes → flat_map spelled_byte bytes ≡ text
bytes_in_spells [] bytes e = let none : bytes ≡ [] = cc in rw none refl
bytes_in_spells (b ∷ []) bytes e =
    front_spells (b ∷ []) [] bytes (unescaped b) (Some []) e (unescaped_spells b) (λ more all. bytes_in_spells [] more all)
bytes_in_spells (b ∷ c ∷ text) bytes e =
    elim (chosen (b == 92) (with_first (escaped c) (bytes_in text)) (with_first (unescaped b) (bytes_in (c ∷ text))) (Some bytes) e) [
      | inl backslash ↦ front_spells (b ∷ c ∷ []) text bytes (escaped c) (bytes_in text) backslash.1
          (λ x all. escaped_spells c x all ∙ ap (λ n. n ∷ c ∷ []) (sym ((Decides-eqb b 92).0 backslash.0))) (bytes_in_spells text)
      | inr itself ↦ front_spells (b ∷ []) (c ∷ text) bytes (unescaped b) (bytes_in (c ∷ text)) itself.1 (unescaped_spells b) (bytes_in_spells (c ∷ text))
    ]

-- a word is a text that isn't empty
word_in_bytes : (text bytes : List ℕ) → bytes_in text ≡ Some bytes → (bytes ≡ [] → ⊥) → word_in text ≡ Some bytes
word_in_bytes [] bytes e some = absurd (some cc)
word_in_bytes (b ∷ text) bytes e some =
    elim (chosen (bytes_eq (b ∷ text) (codes "\\e")) (Some []) (bytes_in (b ∷ text)) (word_in (b ∷ text)) refl) [
      | inl empty ↦ absurd (let same : b ∷ text ≡ codes "\\e" = (bytes_eq-Decides (b ∷ text) (codes "\\e")).0 empty.0 in
          let none : None ≡ Some bytes = ap bytes_in (sym same) ∙ e in cc)
      | inr full ↦ sym full.1 ∙ e
    ]

pub word_in-spelled : (bytes : List ℕ) → word_in (spelled bytes) ≡ Some bytes
word_in-spelled [] = refl
word_in-spelled (b ∷ bytes) = word_in_bytes (flat_map spelled_byte (b ∷ bytes)) (b ∷ bytes) (bytes_in-spelled (b ∷ bytes)) (λ none. cc)

spelled_bytes : (bytes text : List ℕ) (b : ℕ) → flat_map spelled_byte bytes ≡ b ∷ text → spelled bytes ≡ b ∷ text
spelled_bytes [] text b e = cc
spelled_bytes (a ∷ bytes) text b e = e

pub word_in_spells : (text bytes : List ℕ) → word_in text ≡ Some bytes → spelled bytes ≡ text
word_in_spells [] bytes e = cc
word_in_spells (b ∷ text) bytes e =
    elim (chosen (bytes_eq (b ∷ text) (codes "\\e")) (Some []) (bytes_in (b ∷ text)) (Some bytes) e) [
      | inl empty ↦ (let none : bytes ≡ [] = cc in ap spelled none ∙ sym ((bytes_eq-Decides (b ∷ text) (codes "\\e")).0 empty.0))
      | inr full ↦ spelled_bytes bytes text b (bytes_in_spells (b ∷ text) bytes full.1)
    ]

pub words_in-spelled : (words : List (List ℕ)) → words_in (map spelled words) ≡ Some words
words_in-spelled [] = refl
words_in-spelled (word ∷ words) =
    ap (λ first. with_first first (words_in (map spelled words))) (word_in-spelled word) ∙ ap (with_first (Some word)) (words_in-spelled words)

pub words_in_spells : (texts words : List (List ℕ)) → words_in texts ≡ Some words → map spelled words ≡ texts
words_in_spells [] words e = let none : words ≡ [] = cc in ap (map spelled) none
words_in_spells (text ∷ texts) words e =
    let parts = with_first_some (word_in text) (words_in texts) words e in
    ap (map spelled) parts.4 ∙ ap (λ x. x ∷ map spelled parts.1) (word_in_spells text parts.0 parts.2) ∙ ap (λ xs. text ∷ xs) (words_in_spells texts parts.1 parts.3)
