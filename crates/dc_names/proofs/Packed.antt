-- Bytes in a word and back.
use Rattle.std.proofs.Common.{◌≡◌, ℕ, zero, suc, ◌+◌, ◌-◌, ◌*◌, ◌/◌, ◌^◌, ◌<◌, ◌≤◌, ◌∷◌, [], ◌++◌, List, length, replicate, get_or, take, drop, length-take, refl, sym, ap, ◌∙◌, arith}
use Rattle.std.specs.Int.{w16, w32, from_le_bytes, sum_through, byte_worth}
use Rattle.std.proofs.Math.Nat.{zero-div}
use Rattle.std.proofs.lemmas.Nat.{le_bytes_8, from_le_bytes-to_le_bytes_8, pow-add, shr_high, shr-shr}
use Rattle.std.proofs.lemmas.List.{get_or_past}
use Rattle.std.proofs.lemmas.Grind.{common_steps}
use Rattle.dc_names.specs.Words.{AreBytes, word_of, bytes_in, padded}

get_or-zeros : (n i : ℕ) → get_or {A = ℕ} (replicate n 0) i 0 ≡ 0
get_or-zeros zero i = refl
get_or-zeros (suc n) zero = refl
get_or-zeros (suc n) (suc i) = get_or-zeros n i

get_or-padded : (bs : List ℕ) (n i : ℕ) → get_or (bs ++ replicate n 0) i 0 ≡ get_or bs i 0
get_or-padded [] n i = get_or-zeros n i
get_or-padded (b ∷ bs) n zero = refl
get_or-padded (b ∷ bs) n (suc i) = get_or-padded bs n i

pub word_of-padded : (bs : List ℕ) → word_of (padded bs) ≡ word_of bs
unfolding word_of
word_of-padded bs = λ j. sum_through (λ i. byte_worth i (get_or-padded bs (8 - length bs) i j)) 7

pub bytes_in-word_of : (bs : List ℕ) → length bs ≤ 8 → AreBytes bs → bytes_in (word_of bs) ≡ padded bs
unfolding word_of bytes_in
bytes_in-word_of bs short are =
    let len : length (padded bs) ≡ 8 = grind (arith, common_steps) in
    le_bytes_8 (padded bs) (word_of bs) len (λ i. rw (get_or-padded bs (8 - length bs) i) (are i)) (sym (word_of-padded bs))

pub word_of-bytes_in : (n : ℕ) → n < 2 ^ 64 → word_of (bytes_in n) ≡ n
unfolding word_of bytes_in
word_of-bytes_in n small = from_le_bytes-to_le_bytes_8 n small

-- one byte more before the others
word_of-cons : (b : ℕ) (bs : List ℕ) → length bs ≤ 7 → word_of (b ∷ bs) ≡ word_of bs * 2 ^ 8 + b
unfolding word_of
word_of-cons b bs short = let past : get_or bs 7 0 ≡ 0 = grind (arith, common_steps) in omega arith

word_of-none : word_of [] ≡ 0
unfolding word_of
word_of-none = refl

-- a shift by this many bytes loses the first ones
pub word_of-drop : (k : ℕ) (bs : List ℕ) → length bs ≤ 8 → AreBytes bs → word_of bs / 2 ^ (8 * k) ≡ word_of (drop k bs)
word_of-drop zero bs short are = omega arith
word_of-drop (suc k) [] short are = ap (λ (n : ℕ). n / 2 ^ (8 * suc k)) word_of-none ∙ zero-div (2 ^ (8 * suc k)) ∙ sym word_of-none
word_of-drop (suc k) (b ∷ bs) short are =
    let first : word_of (b ∷ bs) / 2 ^ 8 ≡ word_of bs = ap (λ (n : ℕ). n / 2 ^ 8) (word_of-cons b bs (omega arith)) ∙ shr_high (word_of bs) 8 b (are 0) in
    let more : 8 * suc k ≡ 8 + 8 * k = omega arith in
    ap (λ (n : ℕ). word_of (b ∷ bs) / 2 ^ n) more ∙ sym (shr-shr (word_of (b ∷ bs)) 8 (8 * k)) ∙ ap (λ (n : ℕ). n / 2 ^ (8 * k)) first
    ∙ word_of-drop k bs (omega arith) (λ i. are (suc i))

-- the first ones, and the others past them
pub word_of-split : (k : ℕ) (bs : List ℕ) → length bs ≤ 8 → word_of bs ≡ word_of (take k bs) + word_of (drop k bs) * 2 ^ (8 * k)
word_of-split zero bs short = omega (arith, word_of-none)
word_of-split (suc k) [] short =
    let first : word_of (take (suc k) []) ≡ 0 = word_of-none in
    let others : word_of (drop (suc k) []) * 2 ^ (8 * suc k) ≡ 0 * 2 ^ (8 * suc k) = ap (λ (n : ℕ). n * 2 ^ (8 * suc k)) word_of-none in
    omega (arith, word_of-none)
word_of-split (suc k) (b ∷ bs) short =
    let few : length (take k bs) ≤ 7 = omega (arith, length-take {A = ℕ}) in
    let more : 8 * suc k ≡ 8 + 8 * k = omega arith in
    let power : 2 ^ (8 * suc k) ≡ 2 ^ 8 * 2 ^ (8 * k) = ap (λ (n : ℕ). 2 ^ n) more ∙ pow-add 2 8 (8 * k) in
    let worth : word_of (drop k bs) * 2 ^ (8 * suc k) ≡ word_of (drop k bs) * (2 ^ 8 * 2 ^ (8 * k)) = ap (λ (n : ℕ). word_of (drop k bs) * n) power in
    omega (arith, word_of-cons b bs (omega arith), word_of-split k bs (omega arith), word_of-cons b (take k bs) few)

-- few bytes are no more in a longer word
pub word_of-4 : (bs : List ℕ) → length bs ≤ 4 → from_le_bytes w32 bs ≡ word_of bs
unfolding word_of
word_of-4 bs short = omega (arith, get_or_past bs 4 0 short, get_or_past bs 5 0 (omega arith), get_or_past bs 6 0 (omega arith), get_or_past bs 7 0 (omega arith))

pub word_of-2 : (bs : List ℕ) → length bs ≤ 2 → from_le_bytes w16 bs ≡ word_of bs
unfolding word_of
word_of-2 bs short = omega (arith, get_or_past bs 2 0 short, get_or_past bs 3 0 (omega arith), get_or_past bs 4 0 (omega arith), get_or_past bs 5 0 (omega arith), get_or_past bs 6 0 (omega arith), get_or_past bs 7 0 (omega arith))

pub word_of-1 : (bs : List ℕ) → length bs ≤ 1 → get_or bs 0 0 ≡ word_of bs
unfolding word_of
word_of-1 bs short = omega (arith, get_or_past bs 1 0 short, get_or_past bs 2 0 (omega arith), get_or_past bs 3 0 (omega arith), get_or_past bs 4 0 (omega arith), get_or_past bs 5 0 (omega arith), get_or_past bs 6 0 (omega arith), get_or_past bs 7 0 (omega arith))
