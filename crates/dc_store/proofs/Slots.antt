-- Inodes in the slots of a slab: what a number finds, and how they change as a slot does.
use Rattle.std.proofs.Common.{◌≡◌, ℕ, List, [], ◌∷◌, length, Bool, true, false, not, ◌&&◌, cond, Option, Some, None, is_some, option_map, IsTrue, T, ◌⊎◌, inl, inr, refl, ap, sym, ◌∙◌, subst, arith}
use Rattle.std.proofs.lemmas.Bool.Decides.{nat_tests}
use Rattle.std.specs.Cmp.{nat_cmp_total}
use Rattle.std.specs.FinMap.Entries.{put, below_all, is_sorted, is_sorted-put, is_sorted-where_key, find-put, same_entries}
use Rattle.std.specs.List.{AllByRecursion}
use Rattle.std.specs.List.Sorted.{IsStrictlySortedBy}
use Rattle.std.specs.Map.{keys_of}
use Rattle.std.specs.Ordering.{nat_cmp, eq_by_cmp, is_eq, is_lt}
use Rattle.std.specs.declared.cmp.Ordering.TheVariants.{Less, Equal}
use Rattle.slab.specs.Slab.{Slab, Updates, slab_len}
use Rattle.slab.specs.Slab.{get as slot}
use Rattle.dc_store.specs.Inodes.{inode_at, without_inode}
use Rattle.dc_store.specs.Slots.{inode_in, inodes_in, key_of, IsKept}
use Rattle.dc_store.specs.declared.inode.Inode.{Inode}
use Rattle.dc_store.proofs.Mapped.{found_map, sorted_map}
use Rattle.dc_store.proofs.Maps.{lookup_find}
use Rattle.dc_store.proofs.Spots.{lookup-take}
use Rattle.dc_store.proofs.Decides.{same_number, other_number}

exact : (m n : ℕ) → nat_cmp m n ≡ Equal → m ≡ n
exact m n e = same_number m n (ap is_eq e)

-- two numbers tie in the order whichever of them comes first
pub tied_ways : (m n : ℕ) → eq_by_cmp nat_cmp m n ≡ eq_by_cmp nat_cmp n m
tied_ways m n = grind (arith, nat_tests)

-- lists of inodes in order are one if each number finds the same
pub same_inodes : (es fs : List (ℕ × Inode)) → T (is_sorted nat_cmp es) → T (is_sorted nat_cmp fs) → ((q : ℕ) → inode_at es q ≡ inode_at fs q) → es ≡ fs
same_inodes = same_entries nat_cmp nat_cmp_total exact

turned : (b : Bool) (o : Option Inode) → cond (not b) o None ≡ cond b None o
turned true o = refl
turned false o = refl

pub found_without : (n : ℕ) (es : List (ℕ × Inode)) (q : ℕ) → inode_at (without_inode n es) q ≡ cond (eq_by_cmp nat_cmp q n) None (inode_at es q)
found_without n es q = lookup-take nat_cmp nat_cmp_total n q es ∙ ap (λ b. cond (not b) (inode_at es q) None) (tied_ways n q) ∙ turned (eq_by_cmp nat_cmp q n) (inode_at es q)

-- with this at a number, and no other
abbrev pub with_slot : ℕ → Option Inode → List (ℕ × Inode) → List (ℕ × Inode)
with_slot n None inodes = without_inode n inodes
with_slot n (Some inode) inodes = put nat_cmp n inode inodes

found_with : (n : ℕ) (o : Option Inode) (es : List (ℕ × Inode)) (q : ℕ) → inode_at (with_slot n o es) q ≡ cond (eq_by_cmp nat_cmp q n) o (inode_at es q)
found_with n None es q = found_without n es q
found_with n (Some inode) es q = find-put nat_cmp nat_cmp_total q n inode es

sorted_with : (n : ℕ) (o : Option Inode) (es : List (ℕ × Inode)) → T (is_sorted nat_cmp es) → T (is_sorted nat_cmp (with_slot n o es))
sorted_with n None es s = is_sorted-where_key nat_cmp _ es s
sorted_with n (Some inode) es s = is_sorted-put nat_cmp nat_cmp_total n inode es s

both : (a b : Bool) → T a → T b → T (a && b)
both true b s t = t
both false b s t = s

above : (n : ℕ) (keys : List (ℕ × ℕ)) → AllByRecursion (λ m. nat_cmp n m ≡ Less) (keys_of keys) → T (below_all nat_cmp n keys)
above n [] all = tt
above n (e ∷ keys) all = both (is_lt (nat_cmp n e.0)) (below_all nat_cmp n keys) (subst (λ o. T (is_lt o)) (sym all.0) tt) (above n keys all.1)

rising : (keys : List (ℕ × ℕ)) → IsStrictlySortedBy nat_cmp (keys_of keys) → T (is_sorted nat_cmp keys)
unfolding IsStrictlySortedBy
rising [] ordered = tt
rising (e ∷ keys) ordered = both (below_all nat_cmp e.0 keys) (is_sorted nat_cmp keys) (above e.0 keys ordered.0) (rising keys ordered.1)

pub sorted_in : (slab : Slab Inode) (keys : List (ℕ × ℕ)) → IsStrictlySortedBy nat_cmp (keys_of keys) → T (is_sorted nat_cmp (inodes_in slab keys))
sorted_in slab keys ordered = subst T (sym (sorted_map (λ key. inode_in (slot slab key)) keys)) (rising keys ordered)

-- a number finds what is in the slot of its key
pub at_number : (slab : Slab Inode) (keys : List (ℕ × ℕ)) (q : ℕ) → inode_at (inodes_in slab keys) q ≡ option_map (λ key. inode_in (slot slab key)) (key_of keys q)
at_number slab keys q = found_map (λ key. inode_in (slot slab key)) q keys ∙ ap (option_map (λ key. inode_in (slot slab key))) (sym (lookup_find nat_cmp_total q keys))

-- one slot changes, and with it what one number finds
module _ {slab new : Slab Inode} {keys : List (ℕ × ℕ)} (kept : IsKept slab keys) (n slot_key : ℕ) (o : Option Inode) (changed : Updates slab new slot_key o) (news : List (ℕ × ℕ)) (ordered : IsStrictlySortedBy nat_cmp (keys_of news))
    (found : (q : ℕ) → key_of news q ≡ cond (eq_by_cmp nat_cmp n q) (option_map (λ i. slot_key) o) (key_of keys q)) (own : (q : ℕ) → key_of keys q ≡ Some slot_key → n ≡ q) where
  same_slot : (q key : ℕ) → eq_by_cmp nat_cmp n q ≡ false → key_of keys q ≡ Some key → slot new key ≡ slot slab key
  same_slot q key other e = changed.others key (λ same. other_number n q other (own q (e ∙ ap (λ k. Some k) same)))

  here : (r : Option Inode) → slot new slot_key ≡ r → option_map (λ key. inode_in (slot new key)) (option_map (λ i. slot_key) r) ≡ r
  here None e = refl
  here (Some w) e = ap (λ s. Some (inode_in s)) e

  elsewhere : (q : ℕ) → eq_by_cmp nat_cmp n q ≡ false → (r : Option ℕ) → key_of keys q ≡ r → option_map (λ key. inode_in (slot new key)) r ≡ option_map (λ key. inode_in (slot slab key)) r
  elsewhere q other None e = refl
  elsewhere q other (Some key) e = ap (λ s. Some (inode_in s)) (same_slot q key other e)

  found_at : (q : ℕ) → inode_at (inodes_in new news) q ≡ cond (eq_by_cmp nat_cmp n q) o (inode_at (inodes_in slab keys) q)
  found_at q = at_number new news q ∙ ap (option_map (λ key. inode_in (slot new key))) (found q)
      ∙ elim (eq_by_cmp nat_cmp n q) as (λ b. eq_by_cmp nat_cmp n q ≡ b → option_map (λ key. inode_in (slot new key)) (cond b (option_map (λ i. slot_key) o) (key_of keys q)) ≡ cond b o (inode_at (inodes_in slab keys) q)) [
        | true ↦ λ same. here o changed.changed
        | false ↦ λ other. elsewhere q other (key_of keys q) refl ∙ sym (at_number slab keys q)
      ] refl

  -- so the list has another inode at the number, or none
  pub placed : inodes_in new news ≡ with_slot n o (inodes_in slab keys)
  placed = let sorted = sorted_in slab keys kept.ordered in
      same_inodes (inodes_in new news) (with_slot n o (inodes_in slab keys)) (sorted_in new news ordered) (sorted_with n o (inodes_in slab keys) sorted)
      (λ q. found_at q ∙ ap (λ b. cond b o (inode_at (inodes_in slab keys) q)) (tied_ways n q) ∙ sym (found_with n o (inodes_in slab keys) q))

  -- a key is the number's own, or stays another one's with what is in its slot
  abbrev Own : ℕ → ℕ → Type 0
  Own q key = (n ≡ q) × (slot_key ≡ key) × IsTrue (is_some (slot new slot_key))

  abbrev Stays : ℕ → ℕ → Type 0
  Stays q key = (key_of keys q ≡ Some key) × (slot new key ≡ slot slab key)

  whose : (q key : ℕ) → key_of news q ≡ Some key → Own q key ⊎ Stays q key
  whose q key e = elim (eq_by_cmp nat_cmp n q) as (λ b. eq_by_cmp nat_cmp n q ≡ b → cond b (option_map (λ i. slot_key) o) (key_of keys q) ≡ Some key → Own q key ⊎ Stays q key) [
    | true ↦ λ same is. let at = filled_by o is changed.changed in inl (same_number n q same, at.0, at.1)
    | false ↦ λ other is. inr (is, same_slot q key other is)
  ] refl (sym (found q) ∙ e)
    where
      filled_by : (r : Option Inode) → option_map (λ i. slot_key) r ≡ Some key → slot new slot_key ≡ r → (slot_key ≡ key) × IsTrue (is_some (slot new slot_key))
      filled_by None is got = cc
      filled_by (Some w) is got = (cc, ap is_some got)

  pub kept_so : slab_len new ≡ length news → IsKept new news
  kept_so no_more = record {
    ordered = ordered;
    filled = λ q key e. filled q key (whose q key e);
    apart = λ p q key d e. apart p q key (whose p key d) (whose q key e);
    no_more = no_more;
  }
    where
      filled : (q key : ℕ) → Own q key ⊎ Stays q key → IsTrue (is_some (slot new key))
      filled q key (inl own) = ap (λ k. is_some (slot new k)) (sym own.1) ∙ own.2
      filled q key (inr stays) = ap is_some stays.1 ∙ kept.filled q key stays.0

      apart : (p q key : ℕ) → Own p key ⊎ Stays p key → Own q key ⊎ Stays q key → p ≡ q
      apart p q key (inl a) (inl b) = sym a.0 ∙ b.0
      apart p q key (inl a) (inr b) = sym a.0 ∙ own q (b.0 ∙ ap (λ k. Some k) (sym a.1))
      apart p q key (inr a) (inl b) = sym (own p (a.0 ∙ ap (λ k. Some k) (sym b.1))) ∙ b.0
      apart p q key (inr a) (inr b) = kept.apart p q key a.0 b.0
