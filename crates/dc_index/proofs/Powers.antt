-- A number with one set bit is a power of two.
use Rattle.std.proofs.Common.{◌≡◌, ℕ, suc, ◌-◌, ◌/◌, ◌%◌, count_ones, bit_and, subst, sym, pow-suc, arith}
use Rattle.std.specs.Int.{IsPowerOfTwo}
use Rattle.std.proofs.lemmas.Nat.{and_mask, ones_le_self, zero_from_ones}
use Rattle.std.proofs.Math.Nat.{eq-zero-or-pos}
use mathlib.Core.Logic.{⊎_elim}
use lib.Arith.{bin_ind}
use lib.Count.{ones_step}

pub one_bit : (n : ℕ) → count_ones n ≡ 1 → IsPowerOfTwo n
one_bit =
    bin_ind (λ (n : ℕ). count_ones n ≡ 1 → IsPowerOfTwo n) (λ e. absurd (omega (arith, ones_le_self 0)))
    (λ n ih e. let s = ones_step n in
    ⊎_elim (λ even. let half = ih (omega arith) in (suc half.0, let p = pow-suc 2 half.0 in let h = half.1 in omega arith))
    (λ odd. let z = zero_from_ones (n / 2) (omega arith) in (0, omega arith)) (eq-zero-or-pos (n % 2)))

pub and_one_bit : (n b : ℕ) → count_ones b ≡ 1 → bit_and n (b - 1) ≡ n % b
and_one_bit n b e = let power = one_bit b e in subst (λ (m : ℕ). bit_and n (m - 1) ≡ n % m) (sym power.1) (and_mask n power.0)
