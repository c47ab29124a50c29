-- The bytes of a word as the lanes of a vector.
use Rattle.std.proofs.Common.{◌≡◌, ◌≢◌, ◌↔◌, ℕ, zero, suc, ◌+◌, ◌-◌, ◌/◌, ◌%◌, ◌^◌, ◌<◌, ◌≤◌, List, [], ◌∷◌, cond, eqb, length, get_or, map, refl, ap, ◌∙◌, arith}
use Rattle.std.specs.Int.{bytes_low_first}
use Rattle.std.specs.Simd.Lanes.{mask_l}
use Rattle.std.proofs.Math.Nat.{pow-suc, pow-le-pow_right, zero-div}
use Rattle.std.proofs.lemmas.Bool.{ne_eqb}
use Rattle.dc_names.specs.Words.{bytes_in}
use Rattle.dc_row.specs.Decoding.{HasBytes}

byte_low_first : (first n word i : ℕ) → i < n → get_or (bytes_low_first first n word) i 0 ≡ word / 256 ^ (first + i) % 256
byte_low_first first zero word i lt = absurd (omega arith)
byte_low_first zero (suc n) word zero lt = omega arith
byte_low_first (suc first) (suc n) word zero lt = let same : suc first ≡ suc first + 0 = omega arith in ap (λ (k : ℕ). word / 256 ^ k % 256) same
byte_low_first first (suc n) word (suc i) lt =
    let next : suc first + i ≡ first + suc i = omega arith in
    byte_low_first (suc first) n word i (omega arith) ∙ ap (λ (k : ℕ). word / 256 ^ k % 256) next

pub bytes_size : (word : ℕ) → length (bytes_in word) ≡ 8
unfolding bytes_in
bytes_size word = refl

-- each byte of a word is less than 256
pub byte_small : (word i : ℕ) → get_or (bytes_in word) (i % 8) 0 < 256
unfolding bytes_in
byte_small word i = let at = byte_low_first 0 8 word (i % 8) (omega arith) in omega (arith, at)

-- and those of zero are zero
pub zero_byte : (i : ℕ) → get_or (bytes_in 0) (i % 8) 0 ≡ 0
unfolding bytes_in
zero_byte i = byte_low_first 0 8 0 (i % 8) (omega arith) ∙ ap (λ (n : ℕ). n % 256) (zero-div (256 ^ (0 + i % 8)))

-- the bits of the zeros among some bytes
abbrev pub zeros : List ℕ → ℕ
zeros bytes = mask_l (map (λ x. eqb x 0) bytes)

no_bit : (x : ℕ) → cond {A = ℕ} (eqb (suc x) 0) 1 0 ≡ 0
no_bit x = ap (λ b. cond b 1 0) (ne_eqb (suc x) 0 (λ e. absurd (omega arith)))

-- as `HasBytes` says of a word, of any number of bytes
abbrev Ends : List ℕ → ℕ → Type 0
Ends bytes len = (i : ℕ) → i < length bytes → (i < len) ↔ (get_or bytes i 0 ≢ 0)

zeros_end : (bytes : List ℕ) (len : ℕ) → len ≤ length bytes → zeros bytes + 2 ^ len ≡ 2 ^ length bytes → Ends bytes len
zeros_end [] len fits e i within = absurd (omega arith)
zeros_end (zero ∷ xs) zero fits e zero within = (λ lt. absurd (omega arith), λ some. absurd (some refl))
zeros_end (zero ∷ xs) zero fits e (suc i) within =
    let rest = zeros_end xs zero (omega arith) (omega (arith, pow-suc 2 (length xs))) i (omega arith) in
    (λ lt. absurd (omega arith), λ some. let lt = rest.1 some in absurd (omega arith))
zeros_end (zero ∷ xs) (suc len) fits e i within = absurd (omega (arith, pow-suc 2 len, pow-suc 2 (length xs)))
zeros_end (suc x ∷ xs) zero fits e i within = absurd (omega (arith, no_bit x, pow-suc 2 (length xs)))
zeros_end (suc x ∷ xs) (suc len) fits e zero within = (λ lt e. absurd (omega arith), λ some. omega arith)
zeros_end (suc x ∷ xs) (suc len) fits e (suc i) within =
    let rest = zeros_end xs len (omega arith) (omega (arith, no_bit x, pow-suc 2 len, pow-suc 2 (length xs))) i (omega arith) in
    (λ lt. rest.0 (omega arith), λ some. let lt = rest.1 some in omega arith)

end_zeros : (bytes : List ℕ) (len : ℕ) → len ≤ length bytes → Ends bytes len → zeros bytes + 2 ^ len ≡ 2 ^ length bytes
end_zeros [] len fits ends = let none : len ≡ 0 = omega arith in ap (λ (n : ℕ). zeros [] + 2 ^ n) none
end_zeros (zero ∷ xs) zero fits ends =
    let rest = end_zeros xs zero (omega arith) (λ i within.
    let at = ends (suc i) (omega arith) in (λ lt. absurd (omega arith), λ some. let lt = at.1 some in absurd (omega arith))) in
    omega (arith, pow-suc 2 (length xs))
end_zeros (zero ∷ xs) (suc len) fits ends = absurd ((ends 0 (omega arith)).0 (omega arith) refl)
end_zeros (suc x ∷ xs) zero fits ends = absurd (let lt = (ends 0 (omega arith)).1 (λ e. absurd (omega arith)) in omega arith)
end_zeros (suc x ∷ xs) (suc len) fits ends =
    let rest = end_zeros xs len (omega arith) (λ i within.
    let at = ends (suc i) (omega arith) in (λ lt. at.0 (omega arith), λ some. let lt = at.1 some in omega arith)) in
    omega (arith, no_bit x, pow-suc 2 len, pow-suc 2 (length xs))

-- the bits of the zeros are those from a place on exactly if the bytes end there
pub zeros_tell : (bytes : List ℕ) (len : ℕ) → length bytes ≡ 8 → len ≤ 8 → (zeros bytes ≡ 2 ^ 8 - 2 ^ len) ↔ HasBytes bytes len
zeros_tell bytes len size fits =
    let whole = ap (λ (n : ℕ). 2 ^ n) size in
    let less : 2 ^ len ≤ 2 ^ 8 = pow-le-pow_right (omega arith) fits in (
      λ same i within. zeros_end bytes len (omega arith) (omega (arith, whole, less)) i (omega arith),
      λ ends. let sum = end_zeros bytes len (omega arith) (λ i within. ends i (omega arith)) in omega (arith, whole),
    )
