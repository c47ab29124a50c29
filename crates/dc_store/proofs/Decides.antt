-- What tests of numbers, Booleans and inodes say.
use Rattle.std.proofs.Common.{◌≡◌, ◌≢◌, ℕ, ◌==◌, Bool, true, false, Option, Some, None, is_some, IsTrue, T, refl, arith}
use Rattle.std.proofs.lemmas.Bool.Decides.{nat_tests}
use Rattle.std.specs.Ordering.{nat_cmp, eq_by_cmp}
use Rattle.dc_plain.specs.Trees.{Inode, is_directory_inode}
use Rattle.dc_plain.specs.Trees.Inode.{Directory, Regular, Symbolic}

pub to_test : (b : Bool) → b ≡ true → T b
to_test true e = tt
to_test false e = cc

pub from_test : (b : Bool) → T b → b ≡ true
from_test true t = refl
from_test false t = absurd t

pub itself : (n : ℕ) → eq_by_cmp nat_cmp n n ≡ true
itself n = grind (arith, nat_tests)

pub same_number : (m n : ℕ) → eq_by_cmp nat_cmp m n ≡ true → m ≡ n
same_number m n e = grind (arith, nat_tests)

pub other_number : (m n : ℕ) → eq_by_cmp nat_cmp m n ≡ false → m ≢ n
other_number m n e = grind (arith, nat_tests)

pub decided : (m n : ℕ) → (m == n) ≡ true → m ≡ n
decided m n e = grind (arith, nat_tests)

pub decided_not : (m n : ℕ) → (m == n) ≡ false → m ≢ n
decided_not m n e = grind (arith, nat_tests)

pub other_test : (m n : ℕ) → m ≢ n → (m == n) ≡ false
other_test m n e = grind (arith, nat_tests)

pub is_directory_in : (o : Option Inode) → is_directory_inode o ≡ true → o ≡ Some Directory
is_directory_in None e = cc
is_directory_in (Some Directory) e = refl
is_directory_in (Some Regular) e = cc
is_directory_in (Some (Symbolic text)) e = cc

pub some_in : {X : Type 0} (o : Option X) → IsTrue (is_some o) → (x : X) × (o ≡ Some x)
some_in None e = absurd cc
some_in (Some x) e = (x, refl)
