use Rattle.std.proofs.Common.{◌≡◌, ℕ, zero, suc, ◌<◌, [], ◌∷◌, get_or, arith}
use Rattle.dc_row.proofs.Written.{word_past}
use Rattle.dc_row.proofs.short.short_words.Goals as goal

four : (word : ℕ → ℕ) (a b c d : ℕ) → a ≡ word 0 → b ≡ word 1 → c ≡ word 2 → d ≡ word 3 → (i : ℕ) → i < 4 → get_or (a ∷ b ∷ c ∷ d ∷ []) i 0 ≡ word i
four word a b c d first second third fourth zero few = first
four word a b c d first second third fourth (suc zero) few = second
four word a b c d first second third fourth (suc (suc zero)) few = third
four word a b c d first second third fourth (suc (suc (suc zero))) few = fourth
four word a b c d first second third fourth (suc (suc (suc (suc i)))) few = absurd (omega arith)

pub returns-clause-words : goal.returns-clause-words
returns-clause-words c = four _ _ _ _ _ c.text_word.ensures c.text_word-2.ensures c.text_word-3.ensures c.text_word-4.ensures

pub returns-clause-past : goal.returns-clause-past
returns-clause-past c = λ i past. word_past c.args.text.now i (omega arith)
