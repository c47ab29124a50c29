-- The bytes of a word that were packed into it.
use Rattle.std.proofs.Common.{◌≡◌, ℕ, zero, suc, ◌-◌, ◌≤◌, ◌∷◌, [], ◌++◌, List, length, replicate, get_or, refl, sym, arith}
use Rattle.std.specs.Int.{sum_through, byte_worth}
use Rattle.std.proofs.lemmas.Nat.{le_bytes_8}
use Rattle.std.proofs.lemmas.Grind.{common_steps}
use Rattle.dc_names.specs.Words.{AreBytes, word_of, bytes_in, padded}

pub get_or-zeros : (n i : ℕ) → get_or {A = ℕ} (replicate n 0) i 0 ≡ 0
get_or-zeros zero i = refl
get_or-zeros (suc n) zero = refl
get_or-zeros (suc n) (suc i) = get_or-zeros n i

pub get_or-padded : (bs : List ℕ) (n i : ℕ) → get_or (bs ++ replicate n 0) i 0 ≡ get_or bs i 0
get_or-padded [] n i = get_or-zeros n i
get_or-padded (b ∷ bs) n zero = refl
get_or-padded (b ∷ bs) n (suc i) = get_or-padded bs n i

word_of-padded : (bs : List ℕ) → word_of (padded bs) ≡ word_of bs
unfolding word_of
word_of-padded bs = λ j. sum_through (λ i. byte_worth i (get_or-padded bs (8 - length bs) i j)) 7

pub bytes_in-word_of : (bs : List ℕ) → length bs ≤ 8 → AreBytes bs → bytes_in (word_of bs) ≡ padded bs
unfolding word_of bytes_in
bytes_in-word_of bs short are =
    let len : length (padded bs) ≡ 8 = grind (arith, common_steps) in
    le_bytes_8 (padded bs) (word_of bs) len (λ i. rw (get_or-padded bs (8 - length bs) i) (are i)) (sym (word_of-padded bs))
