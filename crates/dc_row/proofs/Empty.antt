-- The words of an empty row.
use Rattle.std.proofs.Common.{◌≡◌, ◌==◌, ℕ, zero, suc, ◌-◌, [], Bool, true, false, cond, drop, refl}
use Rattle.dc_names.specs.Words.{word_of}
use Rattle.dc_row.specs.Spelling.{fields, text_word, word_at}

drop_none : (n : ℕ) → drop {A = ℕ} n [] ≡ []
drop_none zero = refl
drop_none (suc n) = refl

no_text : (k : ℕ) → text_word [] k ≡ 0
unfolding word_of
no_text k = rw drop_none refl

all_none : (a b c : Bool) (n : ℕ) → n ≡ 0 → cond a 0 (cond b 0 (cond c 0 n)) ≡ 0
all_none true b c n e = refl
all_none false true c n e = refl
all_none false false true n e = refl
all_none false false false n e = e

pub no_word : (i : ℕ) → word_at (fields 0 0 0 0 []) i ≡ 0
no_word i = all_none (i == 1) (i == 2) (i == 3) (text_word [] (i - 4)) (no_text (i - 4))
