-- Inodes under their numbers, as one of them changes.
use Rattle.std.proofs.Common.{◌≡◌, ℕ, List, true, false, cond, Some, Result, Ok, Err, OnErr, option_map, unwrap_or, IsTrue, refl, ap, sym, ◌∙◌}
use Rattle.std.specs.Cmp.{nat_cmp_total}
use Rattle.std.specs.FinMap.Entries.{put, is_sorted, is_sorted-put, find-put}
use Rattle.std.specs.Ordering.{nat_cmp, eq_by_cmp}
use Rattle.dc_store.specs.Inodes.{inode_at, count_kept}
use Rattle.dc_store.specs.declared.inode.Inode.{Inode}
use Rattle.dc_store.proofs.Slots.{same_inodes}
use Rattle.dc_store.proofs.Decides.{itself, same_number, to_test}

pub on_err : {A E : Type 0} (r : Result A E) {P Q : Type 0} → (P → Q) → OnErr r P → OnErr r Q
on_err (Ok a) so h = h
on_err (Err e) so h = so h

pub put_found : (n : ℕ) (inode : Inode) (inodes : List (ℕ × Inode)) → inode_at (put nat_cmp n inode inodes) n ≡ Some inode
put_found n inode inodes = find-put nat_cmp nat_cmp_total n n inode inodes ∙ ap (λ b. cond b (Some inode) (inode_at inodes n)) (itself n)

pub count_put : (n : ℕ) (inode : Inode) (inodes : List (ℕ × Inode)) → inode.count ≡ count_kept (put nat_cmp n inode inodes) n
count_put n inode inodes = sym (ap (λ o. unwrap_or (option_map (λ (i : Inode). i.count) o) 0) (put_found n inode inodes))

-- what is there already is put there in vain
pub put_same : (n : ℕ) (inode : Inode) (inodes : List (ℕ × Inode)) → IsTrue (is_sorted nat_cmp inodes) → inode_at inodes n ≡ Some inode → put nat_cmp n inode inodes ≡ inodes
put_same n inode inodes sorted there = same_inodes (put nat_cmp n inode inodes) inodes (is_sorted-put nat_cmp nat_cmp_total n inode inodes (to_test _ sorted)) (to_test _ sorted) (λ q.
    find-put nat_cmp nat_cmp_total q n inode inodes
    ∙ elim (eq_by_cmp nat_cmp q n) as (λ b. eq_by_cmp nat_cmp q n ≡ b → cond b (Some inode) (inode_at inodes q) ≡ inode_at inodes q) [
      | true ↦ λ same. sym there ∙ ap (inode_at inodes) (sym (same_number q n same))
      | false ↦ λ other. refl
    ] refl)
