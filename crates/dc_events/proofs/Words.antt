-- Words that stand one after the other.
use Rattle.std.proofs.Common.{◌≡◌, ℕ, zero, suc, ◌+◌, ◌<◌, ◌≤◌, List, [], ◌∷◌, ◌++◌, get_or, refl, ap, ap₂, ◌∙◌, arith}
use Rattle.dc_names.specs.declared.limits.TheConstants.{ROW_WORDS}
use Rattle.dc_events.specs.Rows.{words_from, row_words, base_of}

pub words_from_same : (words words' : List ℕ) (k n : ℕ) → ((j : ℕ) → k ≤ j → j < k + n → get_or words' j 0 ≡ get_or words j 0) → words_from words' k n ≡ words_from words k n
words_from_same words words' k zero same = refl
words_from_same words words' k (suc n) same = ap₂ (λ x xs. x ∷ xs) (same k (omega arith) (omega arith)) (words_from_same words words' (suc k) n (λ j low high. same j (omega arith) (omega arith)))

pub words_from-snoc : (words : List ℕ) (k n : ℕ) → words_from words k (suc n) ≡ words_from words k n ++ get_or words (k + n) 0 ∷ []
words_from-snoc words k zero = let e : k ≡ k + 0 = omega arith in ap (λ j. get_or words j 0 ∷ []) e
words_from-snoc words k (suc n) = let e : suc k + n ≡ k + suc n = omega arith in
    ap (λ xs. get_or words k 0 ∷ xs) (words_from-snoc words (suc k) n ∙ ap (λ j. words_from words (suc k) n ++ get_or words j 0 ∷ []) e)

pub row_words_same : (words words' : List ℕ) (row : ℕ) → ((j : ℕ) → base_of row ≤ j → j < base_of row + ROW_WORDS → get_or words' j 0 ≡ get_or words j 0) → row_words words' row ≡ row_words words row
row_words_same words words' row same = words_from_same words words' (base_of row) ROW_WORDS same
