-- The opening tree is well formed.
use Rattle.std.proofs.Common.{◌≡◌, ℕ, Bool, true, false, cond, Some, None, refl, arith, subst, sym, lit≤}
use Rattle.std.specs.Ordering.{nat_cmp, eq_by_cmp}
use Rattle.std.proofs.lemmas.Bool.Decides.{nat_tests}
use Rattle.dc_plain.specs.Trees.{empty_tree, Inode}
use Rattle.dc_plain.specs.Trees.Inode.{Directory}
use Rattle.dc_plain.specs.IsWellFormed.{IsWellFormed, Lives}

eq_from_cmp_lem : (m n : ℕ) → eq_by_cmp nat_cmp m n ≡ true → m ≡ n
eq_from_cmp_lem m n e = grind (arith, nat_tests)

the_root : (n : ℕ) (inode : Inode) (b : Bool) → eq_by_cmp nat_cmp n 1 ≡ b → cond b (Some Directory) None ≡ Some inode → Lives empty_tree n inode
the_root n inode false e is = absurd cc
the_root n inode true e is =
    let one : 1 ≡ n = sym (eq_from_cmp_lem n 1 e) in
    let dir : Directory ≡ inode = cc in
    subst (λ i. Lives empty_tree n i) dir (subst (λ k. Lives empty_tree k Directory) one
    (record { made = omega arith; counted = omega arith; reached = (λ apart. absurd (apart refl), 0, refl) }))

pub opening : IsWellFormed empty_tree
opening = record {
  entries_in_order = refl;
  inodes_in_order = refl;
  root_is = refl;
  no_entry_leads_to_root = refl;
  entries = tt;
  inodes = λ n inode e. the_root n inode (eq_by_cmp nat_cmp n 1) refl e;
  next_is = lit≤ tt;
}
