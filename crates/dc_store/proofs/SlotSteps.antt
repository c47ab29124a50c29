-- Inodes in the slots of a slab, as those who call see them, while one is found, added, written or dropped.
use Rattle.std.proofs.Common.{◌≡◌, ℕ, ◌+◌, List, length, Bool, true, false, cond, Option, Some, None, is_some, IsTrue, option_map, T, refl, ap, sym, ◌∙◌, subst, arith}
use Rattle.std.proofs.lemmas.List.Sums.{sum_by-set}
use Rattle.std.specs.BTreeMap.{is_at}
use Rattle.std.specs.FinMap.Entries.{put, is_sorted, is_sorted-where_key}
use Rattle.std.specs.List.Sorted.{IsStrictlySortedBy}
use Rattle.std.specs.Map.{keys_of}
use Rattle.std.specs.Ordering.{nat_cmp, eq_by_cmp}
use Rattle.slab.specs.Slab.{Slab, Updates, slab_len, with_value}
use Rattle.slab.specs.Slab.{get as slot}
use Rattle.slab.proofs.SlabLemmas.{ContainsKey-within, Updates-with_value}
use Rattle.dc_store.specs.Inodes.{inode_at, without_inode}
use Rattle.dc_store.specs.Slots.{inode_in, inodes_in, key_of, IsKept}
use Rattle.dc_store.specs.declared.inode.Inode.{Inode}
use Rattle.dc_store.proofs.Slots.{at_number, found_without, kept_so, placed, same_inodes, sorted_in}
use Rattle.dc_store.proofs.Decides.{from_test, same_number}

some_not_none : {X : Type 0} (o : Option X) → o ≡ None → IsTrue (is_some o) → ⊥
some_not_none None e h = cc
some_not_none (Some x) e h = cc

no_image : {X Y : Type 0} (f : X → Y) (o : Option X) → option_map f o ≡ None → o ≡ None
no_image f None e = refl
no_image f (Some x) e = cc

filled_with : (o : Option Inode) → IsTrue (is_some o) → Some (inode_in o) ≡ o
filled_with None h = cc
filled_with (Some i) h = refl

one : (o : Option Inode) → IsTrue (is_some o) → ◌≡◌ {A = ℕ} (cond (is_some o) 1 0) 1
one None h = cc
one (Some i) h = refl

-- keys that are what they were
module _ {keys news : List (ℕ × ℕ)} (same : news ≡ keys) where
  pub kept_as : (slab : Slab Inode) → IsKept slab keys → IsKept slab news
  kept_as slab kept = subst (IsKept slab) (sym same) kept

  pub view_as : (slab : Slab Inode) {inodes : List (ℕ × Inode)} → inodes_in slab keys ≡ inodes → inodes_in slab news ≡ inodes
  view_as slab view = ap (inodes_in slab) same ∙ view

  pub key_as : {key : Option ℕ} (n : ℕ) → key ≡ key_of keys n → key_of news n ≡ key
  key_as n at = ap (λ keys. key_of keys n) same ∙ sym at

module _ {slab : Slab Inode} {keys : List (ℕ × ℕ)} {inodes : List (ℕ × Inode)} (kept : IsKept slab keys) (view : inodes_in slab keys ≡ inodes) where
  sorted : T (is_sorted nat_cmp inodes)
  sorted = subst (λ inodes. T (is_sorted nat_cmp inodes)) view (sorted_in slab keys kept.ordered)

  pub in_order : IsTrue (is_sorted nat_cmp inodes)
  in_order = from_test _ sorted

  seen : (n : ℕ) → inode_at inodes n ≡ option_map (λ key. inode_in (slot slab key)) (key_of keys n)
  seen n = ap (λ inodes. inode_at inodes n) (sym view) ∙ at_number slab keys n

  pub no_key : (n : ℕ) → inode_at inodes n ≡ None → key_of keys n ≡ None
  no_key n absent = no_image (λ key. inode_in (slot slab key)) (key_of keys n) (sym (seen n) ∙ absent)

  -- a number without a key has no inode, and none is dropped
  module _ (n : ℕ) (none : key_of keys n ≡ None) where
    pub nowhere : inode_at inodes n ≡ None
    nowhere = seen n ∙ ap (option_map (λ key. inode_in (slot slab key))) none

    pub none_dropped : inodes ≡ without_inode n inodes
    none_dropped = same_inodes inodes (without_inode n inodes) sorted (is_sorted-where_key nat_cmp _ inodes sorted) (λ q. by_test q (eq_by_cmp nat_cmp q n) refl ∙ sym (found_without n inodes q))
      where
        by_test : (q : ℕ) (b : Bool) → eq_by_cmp nat_cmp q n ≡ b → inode_at inodes q ≡ cond b None (inode_at inodes q)
        by_test q true same = ap (inode_at inodes) (same_number q n same) ∙ nowhere
        by_test q false other = refl

  module _ (n : ℕ) {key : ℕ} (at : key_of keys n ≡ Some key) where
    -- what a number has is in its slot
    pub in_slot : inode_at inodes n ≡ slot slab key
    in_slot = seen n ∙ ap (option_map (λ k. inode_in (slot slab k))) at ∙ filled_with (slot slab key) (kept.filled n key at)

    own : (q : ℕ) → key_of keys q ≡ Some key → n ≡ q
    own q e = kept.apart n q key at e

    -- an inode is written
    module _ (w : Inode) where
      updates : Updates slab (with_value slab key w) key (Some w)
      updates = Updates-with_value slab key w (kept.filled n key at)

      still : (q : ℕ) → key_of keys q ≡ cond (eq_by_cmp nat_cmp n q) (Some key) (key_of keys q)
      still q = elim (eq_by_cmp nat_cmp n q) as (λ b. eq_by_cmp nat_cmp n q ≡ b → key_of keys q ≡ cond b (Some key) (key_of keys q)) [
        | true ↦ λ same. ap (key_of keys) (sym (same_number n q same)) ∙ at
        | false ↦ λ other. refl
      ] refl

      pub written : inodes_in (with_value slab key w) keys ≡ put nat_cmp n w inodes
      written = placed kept n key (Some w) updates keys kept.ordered still own ∙ ap (put nat_cmp n w) view

      as_many : slab_len (with_value slab key w) ≡ slab_len slab
      as_many =
          let counted = sum_by-set (λ (o : Option Inode). cond (is_some o) 1 0) slab.slots key (Some w) None (ContainsKey-within slab key (kept.filled n key at)) in
          let was = one (slot slab key) (kept.filled n key at) in omega arith

      pub written-IsKept : IsKept (with_value slab key w) keys
      written-IsKept = kept_so kept n key (Some w) updates keys kept.ordered still own (as_many ∙ kept.no_more)

    -- an inode is dropped
    module _ {new : Slab Inode} (freed : Updates slab new key None) (news : List (ℕ × ℕ)) (ordered : IsStrictlySortedBy nat_cmp (keys_of news)) (found : (q : ℕ) → key_of news q ≡ cond (is_at (nat_cmp n) q) None (key_of keys q)) where
      pub dropped : inodes_in new news ≡ without_inode n inodes
      dropped = placed kept n key None freed news ordered found own ∙ ap (without_inode n) view

      pub dropped-IsKept : length news + 1 ≡ length keys → slab_len new + 1 ≡ slab_len slab → IsKept new news
      dropped-IsKept fewer one = let was = kept.no_more in kept_so kept n key None freed news ordered found own (omega arith)

  -- an inode is added
  module _ (n : ℕ) {key : ℕ} (vacant : slot slab key ≡ None) {new : Slab Inode} {w : Inode} (filled : Updates slab new key (Some w)) (news : List (ℕ × ℕ)) (ordered : IsStrictlySortedBy nat_cmp (keys_of news))
      (found : (q : ℕ) → key_of news q ≡ cond (is_at (nat_cmp n) q) (Some key) (key_of keys q)) where
    unused : (q : ℕ) → key_of keys q ≡ Some key → n ≡ q
    unused q e = absurd (some_not_none (slot slab key) vacant (kept.filled q key e))

    pub added : inodes_in new news ≡ put nat_cmp n w inodes
    added = placed kept n key (Some w) filled news ordered found unused ∙ ap (put nat_cmp n w) view

    pub added-IsKept : length news ≡ length keys + 1 → slab_len new ≡ slab_len slab + 1 → IsKept new news
    added-IsKept longer one = kept_so kept n key (Some w) filled news ordered found unused (one ∙ ap (λ k. k + 1) kept.no_more ∙ sym longer)
