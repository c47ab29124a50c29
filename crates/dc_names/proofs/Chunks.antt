-- A test of the bytes of a list's chunks, and of its last bytes.
use Rattle.std.proofs.Common.{◌≡◌, ℕ, zero, suc, ◌+◌, ◌-◌, ◌*◌, ◌/◌, ◌<◌, ◌≤◌, ◌||◌, ◌∷◌, [], List, length, take, drop, Bool, true, false, refl, sym, ap, ◌∙◌, arith}
use Rattle.std.specs.List.{list_any}
use Rattle.std.specs.Simd.{first_chunks}
use Rattle.std.proofs.Math.Bool.{or-true, or-false}
use Rattle.std.proofs.Math.Seq.{take-add}
use Rattle.std.proofs.lemmas.List.Folds.{list_any-append}

-- the chunks from the first on have the first bytes
pub any_in_chunks : (p : ℕ → Bool) (n k : ℕ) (xs : List ℕ) → list_any (λ chunk. list_any p chunk) (first_chunks n k xs) ≡ list_any p (take (k * n) xs)
any_in_chunks p n zero xs = let none : 0 ≡ 0 * n = omega arith in ap (λ (m : ℕ). list_any p (take m xs)) none
any_in_chunks p n (suc k) xs =
    let more : n + k * n ≡ suc k * n = omega arith in
    ap (λ found. list_any p (take n xs) || found) (any_in_chunks p n k (drop n xs))
    ∙ sym (list_any-append p (take n xs) (take (k * n) (drop n xs)))
    ∙ sym (ap (list_any p) (take-add n (k * n) xs))
    ∙ ap (λ (m : ℕ). list_any p (take m xs)) more

either : (b last first all : Bool) → (last || first) ≡ all → (last || (b || first)) ≡ (b || all)
either true last first all e = or-true last
either false last first all e = e

both : (b last first : Bool) → (last || first) ≡ last → ((b || last) || (b || first)) ≡ (b || last)
both true last first e = refl
both false last first e = e

first_within : (p : ℕ → Bool) (m : ℕ) (xs : List ℕ) → (list_any p xs || list_any p (take m xs)) ≡ list_any p xs
first_within p zero [] = refl
first_within p (suc m) [] = refl
first_within p zero (x ∷ xs) = or-false (list_any p (x ∷ xs))
first_within p (suc m) (x ∷ xs) = both (p x) (list_any p xs) (list_any p (take m xs)) (first_within p m xs)

-- the last bytes from a place on, and the first up to one behind it, are all
pub last_and_first : (p : ℕ → Bool) (n m : ℕ) (xs : List ℕ) → n ≤ m → (list_any p (drop n xs) || list_any p (take m xs)) ≡ list_any p xs
last_and_first p zero m xs le = first_within p m xs
last_and_first p (suc n) zero xs le = absurd (omega arith)
last_and_first p (suc n) (suc m) [] le = refl
last_and_first p (suc n) (suc m) (x ∷ xs) le = either (p x) (list_any p (drop n xs)) (list_any p (take m xs)) (list_any p xs) (last_and_first p n m xs (omega arith))

-- the last n bytes, and as many chunks of n as there are
pub last_and_chunks : (p : ℕ → Bool) (n : ℕ) (xs last : List ℕ) → 0 < n → last ≡ drop (length xs - n) xs → (found : Bool) → found ≡ list_any p last → (found || list_any p (take (length xs / n * n) xs)) ≡ list_any p xs
last_and_chunks p n xs last some is found told =
    let behind : length xs - n ≤ length xs / n * n = omega (arith, some) in
    ap (λ (b : Bool). b || list_any p (take (length xs / n * n) xs)) (told ∙ ap (λ (ys : List ℕ). list_any p ys) is) ∙ last_and_first p (length xs - n) (length xs / n * n) xs behind

-- what the last bytes and the first ones tell together
pub by_last : (last first all : Bool) → (last || first) ≡ all → last ≡ true → last ≡ all
by_last last first all whole found = found ∙ sym (ap (λ b. b || first) found) ∙ whole

pub by_first : (last first all : Bool) → (last || first) ≡ all → last ≡ false → first ≡ all
by_first last first all whole none = sym (ap (λ b. b || first) none) ∙ whole
