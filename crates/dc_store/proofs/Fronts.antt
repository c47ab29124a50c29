-- The numbers of the first bytes of names are in the order of the names.
use Rattle.std.proofs.Common.{◌≡◌, ◌≢◌, ℕ, zero, suc, ◌+◌, ◌-◌, ◌≤◌, ◌<◌, ◌^◌, List, [], ◌∷◌, ◌++◌, length, get_or, take, drop, replicate, refl, ap, sym, ◌∙◌, arith}
use Rattle.std.proofs.lemmas.List.{drop-replicate, length-replicate, take-append-le, take-replicate}
use Rattle.std.proofs.lemmas.Nat.{be_bytes_8}
use Rattle.std.specs.Cmp.{nat_cmp_is, tied_itself}
use Rattle.std.specs.Cmp.Lexicographic.{slice_cmp, nat_list_cmp_total}
use Rattle.std.specs.Ordering.{nat_cmp, ordering_reverse, ordering_then}
use Rattle.std.specs.declared.cmp.Ordering.{Ordering}
use Rattle.std.specs.declared.cmp.Ordering.TheVariants.{Less, Equal, Greater}
use Rattle.std.specs.Int.{w64, from_be_bytes}
use Rattle.dc_store.specs.Keys.{number_bytes}
use Rattle.dc_store.specs.Fronts.{first_bytes, IsFront}
use Rattle.dc_store.proofs.Keys.{cmp-number_bytes}

then_equal : (o : Ordering) → o ≡ Equal → ordering_then o Equal ≡ Equal
then_equal o e = ap (λ p. ordering_then p Equal) e

zeros_tie : (k m n : ℕ) → k ≤ m → k ≤ n → slice_cmp nat_cmp (take k (replicate m 0)) (take k (replicate n 0)) ≡ Equal
zeros_tie k m n p q = (λ i. slice_cmp nat_cmp (take-replicate k m 0 p i) (take-replicate k n 0 q i)) ∙ tied_itself nat_list_cmp_total (replicate k 0)

-- nothing is less than zeros alone
zeros_first : (k m n : ℕ) (b : List ℕ) → k ≤ m → k ≤ n → ordering_then (slice_cmp nat_cmp (take k (replicate m 0)) (take k (b ++ replicate n 0))) Less ≡ Less
zeros_first k m n [] p q = ap (λ o. ordering_then o Less) (zeros_tie k m n p q)
zeros_first zero m n (y ∷ b) p q = refl
zeros_first (suc k) zero n (y ∷ b) p q = absurd (omega arith)
zeros_first (suc k) (suc m) n (zero ∷ b) p q = zeros_first k m n b (omega arith) (omega arith)
zeros_first (suc k) (suc m) n (suc y ∷ b) p q =
    ap (λ o. ordering_then (ordering_then o (slice_cmp nat_cmp (take k (replicate m 0)) (take k (b ++ replicate n 0)))) Less) (sym (nat_cmp_is 0 (suc y) Less (omega arith)))

turned : (o : Ordering) → ordering_then o Less ≡ Less → ordering_then (ordering_reverse o) Greater ≡ Greater
turned Less e = refl
turned Equal e = refl
turned Greater e = cc

one_deeper : (o p q : Ordering) → ordering_then p q ≡ q → ordering_then (ordering_then o p) (ordering_then o q) ≡ ordering_then o q
one_deeper Less p q e = refl
one_deeper Equal p q e = e
one_deeper Greater p q e = refl

-- two names compare as their first bytes do, if these decide
first_decide : (k m n : ℕ) (a b : List ℕ) → k ≤ m → k ≤ n
    → ordering_then (slice_cmp nat_cmp (take k (a ++ replicate m 0)) (take k (b ++ replicate n 0))) (slice_cmp nat_cmp a b) ≡ slice_cmp nat_cmp a b
first_decide k m n [] [] p q = then_equal _ (zeros_tie k m n p q)
first_decide k m n [] (y ∷ b) p q = zeros_first k m n (y ∷ b) p q
first_decide k m n (x ∷ a) [] p q =
    ap (λ o. ordering_then o Greater) (nat_list_cmp_total.antisymm (take k (x ∷ a ++ replicate m 0)) (take k (replicate n 0)))
    ∙ turned _ (zeros_first k n m (x ∷ a) q p)
first_decide zero m n (x ∷ a) (y ∷ b) p q = refl
first_decide (suc k) m n (x ∷ a) (y ∷ b) p q = one_deeper (nat_cmp x y) _ _ (first_decide k m n a b (omega arith) (omega arith))

module _ (f g : ℕ) (a b : List ℕ) (small : f < 2 ^ 64) (little : g < 2 ^ 64) (of_a : IsFront f a) (of_b : IsFront g b) where
  pub fronts_decide : ordering_then (nat_cmp f g) (slice_cmp nat_cmp a b) ≡ slice_cmp nat_cmp a b
  fronts_decide =
      ap (λ o. ordering_then o (slice_cmp nat_cmp a b)) (sym (cmp-number_bytes f g small little) ∙ (λ i. slice_cmp nat_cmp (of_a i) (of_b i)))
      ∙ first_decide 8 8 8 a b (omega arith) (omega arith)

  decided : (o p : Ordering) → ordering_then o p ≡ p → o ≢ Equal → o ≡ p
  decided Less p e other = e
  decided Equal p e other = absurd (other refl)
  decided Greater p e other = e

  -- fronts that differ say how the names compare
  pub fronts_differ : nat_cmp f g ≢ Equal → nat_cmp f g ≡ slice_cmp nat_cmp a b
  fronts_differ other = decided (nat_cmp f g) (slice_cmp nat_cmp a b) fronts_decide other

padded : (k m : ℕ) (name : List ℕ) (rest : ℕ) → length name + rest ≡ k → k ≤ m → name ++ replicate rest 0 ≡ take k (name ++ replicate m 0)
padded k m [] rest whole fits = let same : rest ≡ k = omega arith in ap (λ j. replicate j 0) same ∙ sym (take-replicate k m 0 fits)
padded zero m (x ∷ xs) rest whole fits = absurd (omega arith)
padded (suc k) m (x ∷ xs) rest whole fits = ap (λ l. x ∷ l) (padded k m xs rest (omega arith) (omega arith))

-- a short name over the zeros of an array
pub part_first : (name : List ℕ) → length name < 8 → name ++ drop (length name) (replicate 8 0) ≡ first_bytes name
part_first name short = ap (λ l. name ++ l) (drop-replicate (length name) 8 0) ∙ padded 8 8 name (8 - length name) (omega arith) (omega arith)

pub whole_first : (name : List ℕ) → 8 ≤ length name → take 8 name ≡ first_bytes name
whole_first name long = sym (take-append-le 8 name (replicate 8 0) long)

small : (k m : ℕ) (name : List ℕ) → ((i : ℕ) → get_or name i 0 < 256) → (i : ℕ) → get_or (take k (name ++ replicate m 0)) i 0 < 256
small zero m name bytes i = omega arith
small (suc k) zero [] bytes i = omega arith
small (suc k) (suc m) [] bytes zero = omega arith
small (suc k) (suc m) [] bytes (suc i) = small k m [] bytes i
small (suc k) m (x ∷ xs) bytes zero = bytes zero
small (suc k) m (x ∷ xs) bytes (suc i) = small k m xs (λ j. bytes (suc j)) i

as_long : (k m : ℕ) (name : List ℕ) → k ≤ m → length (take k (name ++ replicate m 0)) ≡ k
as_long k m [] fits = ap length (take-replicate k m 0 fits) ∙ length-replicate k 0
as_long zero m (x ∷ xs) fits = refl
as_long (suc k) m (x ∷ xs) fits = ap suc (as_long k m xs (omega arith))

-- the number that the first bytes of a name spell
pub front_is : (name : List ℕ) → ((i : ℕ) → get_or name i 0 < 256) → (n : ℕ) (bytes : List ℕ) → bytes ≡ first_bytes name → n ≡ from_be_bytes w64 bytes → IsFront n name
unfolding number_bytes
front_is name fit n bytes is spelled = be_bytes_8 (first_bytes name) n (as_long 8 8 name (omega arith)) (small 8 8 name fit) (spelled ∙ ap (from_be_bytes w64) is)
