-- Words without a space, with spaces between them, are the parts of their line.
use Rattle.std.proofs.Common.{◌≡◌, ℕ, ◌==◌, false, List, [], ◌∷◌, ◌++◌, map, refl, ap, ◌∙◌, inl, inr, subst, sym, arith, Some}
use Rattle.std.specs.List.{AllByRecursion, flat_map}
use Rattle.std.proofs.lemmas.Bool.Decides.{nat_tests}
use Rattle.std.proofs.lemmas.List.Elements.{All-from_recursion}
use Rattle.std.proofs.lemmas.List.Splits.{slice_split_at, slice_split_none}
use Rattle.dc_lang.specs.Words.{spelled, spelled_byte, spaced}
use Rattle.dc_lang.specs.Reading.{parts, escaped, unescaped}
use Rattle.dc_lang.proofs.Words.{spells}

abbrev pub HasNoSpace : List ℕ → Type 0
HasNoSpace text = AllByRecursion (λ b. (b == 32) ≡ false) text

HasNoSpace-append : (x y : List ℕ) → HasNoSpace x → HasNoSpace y → HasNoSpace (x ++ y)
HasNoSpace-append [] y left right = right
HasNoSpace-append (b ∷ x) y left right = (left.0, HasNoSpace-append x y left.1 right)

letter_no_space : (c b : ℕ) → escaped c ≡ Some b → (c == 32) ≡ false
letter_no_space c b e = grind (arith, nat_tests)

byte_no_space : (b : ℕ) → unescaped b ≡ Some b → (b == 32) ≡ false
byte_no_space b e = grind (arith, nat_tests)

HasNoSpace-spelled_byte : (b : ℕ) → HasNoSpace (spelled_byte b)
HasNoSpace-spelled_byte b = elim (spells b) [
  | inl letter ↦ subst HasNoSpace (sym letter.2) (refl, (letter_no_space letter.0 b letter.1, tt))
  | inr itself ↦ subst HasNoSpace (sym itself.1) (byte_no_space b itself.0, tt)
]

HasNoSpace-spelled_bytes : (bytes : List ℕ) → HasNoSpace (flat_map spelled_byte bytes)
HasNoSpace-spelled_bytes [] = tt
HasNoSpace-spelled_bytes (b ∷ bytes) = HasNoSpace-append (spelled_byte b) (flat_map spelled_byte bytes) (HasNoSpace-spelled_byte b) (HasNoSpace-spelled_bytes bytes)

pub HasNoSpace-spelled : (bytes : List ℕ) → HasNoSpace (spelled bytes)
HasNoSpace-spelled [] = (refl, (refl, tt))
HasNoSpace-spelled (b ∷ bytes) = HasNoSpace-spelled_bytes (b ∷ bytes)

pub all_spelled : (words : List (List ℕ)) → AllByRecursion HasNoSpace (map spelled words)
all_spelled [] = tt
all_spelled (word ∷ words) = (HasNoSpace-spelled word, all_spelled words)

pub parts-spaced : (word : List ℕ) (words : List (List ℕ)) → AllByRecursion HasNoSpace (word ∷ words) → parts (spaced (word ∷ words)) ≡ word ∷ words
parts-spaced word [] h = slice_split_none (λ b. b == 32) word (All-from_recursion (λ b. (b == 32) ≡ false) word h.0)
parts-spaced word (next ∷ words) h =
    slice_split_at (λ b. b == 32) word 32 (spaced (next ∷ words)) (All-from_recursion (λ b. (b == 32) ≡ false) word h.0) refl
    ∙ ap (λ rest. word ∷ rest) (parts-spaced next words h.1)
