-- The directory that holds another, as its dot-dot tells.
use Rattle.std.proofs.Common.{◌≡◌, ◌≢◌, ℕ, true, Option, Some, None, IsTrue, refl, ap, sym, ◌∙◌, option_map, option_and_then}
use Rattle.dc_plain.specs.Facts.{Target}
use Rattle.dc_plain.specs.Facts.Label.{Parent}
use Rattle.dc_plain.specs.IsWellFormed.{IsWellFormed}
use Rattle.dc_plain.specs.Trees.{Tree, Inode, inode_of, target_at, kind_of, entry_of, holder_of, is_live_directory, is_directory_inode}
use Rattle.std.proofs.lemmas.Bool.{ne_eqb}
use Rattle.dc_plain.specs.LivingLaws.{HoldersAreLiveDirectories}

abbrev up : Option Target → Option ℕ
up place = option_map (λ place. place.0) place

entry_parent : (t : Tree) (d : ℕ) → IsTrue (is_live_directory t d) → d ≢ 1 → entry_of t d Parent ≡ option_and_then (target_at t) (holder_of t d)
entry_parent t d live below = let root = ne_eqb d 1 below in rw (live, root) refl

some_by : (t : Tree) (o : Option ℕ) (n : ℕ) → up (option_and_then (target_at t) o) ≡ Some n → o ≡ Some n
some_by t None n e = cc
some_by t (Some k) n e = by_inode (inode_of t k) e
  where
    by_inode : (i : Option Inode) → up (option_map (λ inode. (k, kind_of inode)) i) ≡ Some n → Some k ≡ Some n
    by_inode None e' = absurd cc
    by_inode (Some inode) e' = e'

none_by : (t : Tree) (o : Option ℕ) → ((k : ℕ) → o ≡ Some k → IsTrue (is_live_directory t k)) → up (option_and_then (target_at t) o) ≡ None → o ≡ None
none_by t None live e = refl
none_by t (Some k) live e = by_inode (inode_of t k) (live k refl) e
  where
    by_inode : (i : Option Inode) → is_directory_inode i ≡ true → up (option_map (λ inode. (k, kind_of inode)) i) ≡ None → Some k ≡ None
    by_inode None is e' = cc
    by_inode (Some inode) is e' = e'

pub held_by : (t : Tree) (d n : ℕ) → IsTrue (is_live_directory t d) → d ≢ 1 → Some n ≡ option_map (λ place. place.0) (entry_of t d Parent) → holder_of t d ≡ Some n
held_by t d n live below e = some_by t (holder_of t d) n (sym (ap up (entry_parent t d live below)) ∙ sym e)

pub held_by_none : HoldersAreLiveDirectories → (t : Tree) (d : ℕ) → IsWellFormed t → IsTrue (is_live_directory t d) → d ≢ 1 → None ≡ option_map (λ place. place.0) (entry_of t d Parent) → holder_of t d ≡ None
held_by_none holders t d well live below e = none_by t (holder_of t d) (λ k held. holders t d k well held) (sym (ap up (entry_parent t d live below)) ∙ sym e)
