-- What lives and is no directory has a name.
use Rattle.std.proofs.Common.{◌≡◌, ◌≢◌, ◌⊎◌, inl, inr, ℕ, ◌≤◌, ◌==◌, nat_le, Option, Some, None, option_map, unwrap_or, arith, refl, ap, sym, ◌∙◌}
use Rattle.std.proofs.lemmas.Bool.Decides.{nat_tests}
use Rattle.dc_names.specs.declared.kind.Kind.{Kind}
use Rattle.dc_names.specs.declared.kind.Kind.TheVariants.{Dir, File, Link}
use Rattle.dc_plain.specs.Facts.{Target}
use Rattle.dc_plain.specs.IsWellFormed.{IsWellFormed, Lives}
use Rattle.dc_plain.specs.Reads.{count_at}
use Rattle.dc_plain.specs.Trees.{Tree, Inode, inode_of, kind_of, names_of, target_at}
use Rattle.dc_plain.specs.Trees.Inode.{Directory, Regular, Symbolic}
use Rattle.dc_store.specs.Counts.{count_of}
use Rattle.dc_ops.specs.Plans.{LivesIfWell}
use Rattle.dc_cache.specs.Losses.{goes_with_a_name}

named : (t : Tree) (n : ℕ) (k : Kind) (o : Option Inode) → inode_of t n ≡ o → option_map {U = Target} (λ inode. (n, kind_of inode)) o ≡ Some (n, k) → k ≢ Dir → ((inode : Inode) → inode_of t n ≡ Some inode → Lives t n inode) → 1 ≤ names_of t n
named t n k None e is apart lives = absurd cc
named t n k (Some Directory) e is apart lives = let same : (n, Dir) ≡ (n, k) = cc in absurd (apart (sym (ap (λ (p : Target). p.1) same)))
named t n k (Some Regular) e is apart lives = (lives Regular e).reached.0
named t n k (Some (Symbolic text)) e is apart lives = (lives (Symbolic text) e).reached.0

at_most_one : (m : ℕ) → 1 ≤ m → nat_le m 1 ≡ (m == 1)
at_most_one m some = grind (arith, nat_tests)

counted : (t : Tree) (n : ℕ) (k : Kind) (count : ℕ) → count ≡ count_of t n → target_at t n ≡ Some (n, k) → count ≡ count_at t (n, k)
counted t n k count is lives = is ∙ ap (λ (o : Option Target). unwrap_or (option_map (count_at t) o) 0) lives

-- what lives and is no directory goes with a name if it has no other
pub one_name : (t : Tree) (n : ℕ) (k : Kind) (count : ℕ) → (k ≡ File) ⊎ (k ≡ Link) → count ≡ count_of t n → IsWellFormed t → LivesIfWell t (n, k) → nat_le count 1 ≡ goes_with_a_name t (n, k)
one_name t n Dir count (inl file) is well lives = absurd cc
one_name t n Dir count (inr link) is well lives = absurd cc
one_name t n File count or is well lives = let apart : File ≢ Dir = λ e. absurd cc in
    ap (λ (m : ℕ). nat_le m 1) (counted t n File count is (lives well)) ∙ at_most_one (names_of t n) (named t n File (inode_of t n) refl (lives well) apart (well.inodes n))
one_name t n Link count or is well lives = let apart : Link ≢ Dir = λ e. absurd cc in
    ap (λ (m : ℕ). nat_le m 1) (counted t n Link count is (lives well)) ∙ at_most_one (names_of t n) (named t n Link (inode_of t n) refl (lives well) apart (well.inodes n))
