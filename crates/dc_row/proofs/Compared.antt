-- Words that are compared from the second on.
use Rattle.std.proofs.Common.{◌≡◌, ℕ, zero, suc, ◌+◌, ◌-◌, ◌<◌, ◌≤◌, List, [], ◌∷◌, length, get_or, take, drop, Option, refl, sym, ap, ◌∙◌, arith}
use Rattle.std.proofs.lemmas.List.{get_or-take, get_or-drop}
use Rattle.dc_plain.specs.Facts.{Fact}
use Rattle.dc_row.specs.Laws.{CountsTellNothing}
use Rattle.dc_row.specs.Spelling.{Spells}
use Rattle.dc_names.specs.declared.limits.TheConstants.{ROW_WORDS}

from_second : (ws : List ℕ) (n i : ℕ) → 0 < i → i ≤ n → get_or (take n (drop 1 ws)) (i - 1) 0 ≡ get_or ws i 0
from_second ws n i pos within =
    get_or-take n (drop 1 ws) (i - 1) 0 (omega arith) ∙ get_or-drop 1 ws (i - 1) 0 ∙ ap (λ (k : ℕ). get_or ws k 0) (omega arith)

pub spells_too : {ws vs : List ℕ} {fact : Option Fact} (n m : ℕ) → Spells vs fact → length ws ≡ ROW_WORDS → ROW_WORDS ≤ n + 1 → ROW_WORDS ≤ m + 1 → take n (drop 1 vs) ≡ take m (drop 1 ws) → Spells ws fact
spells_too {ws} {vs} {fact} n m s size long wide same = record {
  size = size;
  allowed = s.allowed;
  bytes = s.bytes;
  spelled = λ i pos lt.
      sym (from_second ws m i pos (omega arith)) ∙ ap (λ (l : List ℕ). get_or l (i - 1) 0) (sym same) ∙ from_second vs n i pos (omega arith) ∙ s.spelled i pos lt;
}

pub all_same : (xs ys : List ℕ) → length xs ≡ length ys → ((k : ℕ) → k < length xs → get_or xs k 0 ≡ get_or ys k 0) → xs ≡ ys
all_same [] [] size same = refl
all_same [] (y ∷ ys) size same = absurd (omega arith)
all_same (x ∷ xs) [] size same = absurd (omega arith)
all_same (x ∷ xs) (y ∷ ys) size same =
    let rest = all_same xs ys (omega arith) (λ k h. same (suc k) (omega arith)) in
    let first = same 0 (omega arith) in
    λ i. first i ∷ rest i

rest_same : (xs ys : List ℕ) → length xs ≡ length ys → ((i : ℕ) → 0 < i → i < length xs → get_or xs i 0 ≡ get_or ys i 0) → drop 1 xs ≡ drop 1 ys
rest_same [] [] size same = refl
rest_same [] (y ∷ ys) size same = absurd (omega arith)
rest_same (x ∷ xs) [] size same = absurd (omega arith)
rest_same (x ∷ xs) (y ∷ ys) size same = all_same xs ys (omega arith) (λ k h. same (suc k) (omega arith) (omega arith))

-- a row has one spelling
pub spelled_alike : {ws vs : List ℕ} {fact : Option Fact} → Spells vs fact → Spells ws fact → drop 1 vs ≡ drop 1 ws
spelled_alike {ws} {vs} {fact} s t = rest_same vs ws (s.size ∙ sym t.size) (λ i pos lt. s.spelled i pos (rw (← s.size) lt) ∙ sym (t.spelled i pos (rw (← s.size) lt)))

later_same : (m n : ℕ) (words : List ℕ) (i : ℕ) → 0 < i → get_or (n ∷ words) i 0 ≡ get_or (m ∷ words) i 0
later_same m n words zero pos = absurd (omega arith)
later_same m n words (suc i) pos = refl

pub any_count : CountsTellNothing
any_count m n words fact s = record {
  size = s.size;
  allowed = s.allowed;
  bytes = s.bytes;
  spelled = λ i pos lt. later_same m n words i pos ∙ s.spelled i pos lt;
}
