-- A store of inodes that stands for a tree, in which two names have swapped what they lead to.
use Rattle.std.proofs.Common.{◌≡◌, ℕ, ◌+◌, ◌==◌, List, Bool, true, false, cond, Some, None, is_some, IsTrue, IsSome, T, refl, ap, sym, ◌∙◌, subst, arith}
use Rattle.std.specs.FinMap.Entries.{find-put, put, is_sorted}
use Rattle.std.specs.FinMap.Entries.{find as lookup}
use Rattle.std.specs.Ordering.{nat_cmp, eq_by_cmp}
use Rattle.dc_store.proofs.Spots.{spots_total}
use Rattle.dc_plain.specs.Conditions as plain
use Rattle.dc_plain.specs.Effects.{tree_swapped}
use Rattle.dc_plain.specs.Trees.{Tree, Spot, spot_cmp, how_many}
use Rattle.dc_store.specs.Inodes.{entries_of, nodes_of, inode_at, led_to, changed, with_name, held_by}
use Rattle.dc_store.specs.Laws.{TreeLaws}
use Rattle.dc_store.specs.declared.inode.Inode.{Inode}
use Rattle.dc_store.proofs.Changed.{sorted_changed, entries_kept, entries_with}
use Rattle.dc_store.proofs.CountedInodes.{IsCounted, counted_changed}
use Rattle.dc_store.proofs.Entered.{found_spot}
use Rattle.dc_store.proofs.Keeps.{Keeps, in_order, entries_are, lives_directory}
use Rattle.dc_store.proofs.KeepsMoved.{led_entry, still_there}
use Rattle.dc_store.proofs.NodesKept.{nodes_kept, held_shown, held_set}
use Rattle.dc_store.proofs.Stores.{Shows}
use Rattle.dc_store.proofs.Swaps.{after_swap}

-- if one entry is led elsewhere another one is there still
pub there_after : (a b : Spot) (n : ℕ) (es : List (Spot × ℕ)) → IsSome (lookup spot_cmp b es) → IsSome (lookup spot_cmp b (put spot_cmp a n es))
there_after a b n es there = subst IsSome (sym (find-put spot_cmp spots_total b a n es)) (by_test (eq_by_cmp spot_cmp b a))
  where
    by_test : (o : Bool) → IsSome (cond o (Some n) (lookup spot_cmp b es))
    by_test true = refl
    by_test false = there

module _ (laws : TreeLaws) (a : Spot) (m : ℕ) (b : Spot) (n : ℕ) {inodes : List (ℕ × Inode)} {next : ℕ} {t : Tree} (now : Keeps inodes next t) (can : plain.CanSwap t a m b n) where
  abbrev half : List (ℕ × Inode)
  half = changed a.dir (with_name a.name n) inodes

  abbrev full : List (ℕ × Inode)
  full = changed b.dir (with_name b.name m) half

  abbrev held_once : List (ℕ × Inode)
  held_once = changed m (held_by b.dir) full

  abbrev last : List (ℕ × Inode)
  last = changed n (held_by a.dir) held_once

  sorted_half : T (is_sorted nat_cmp half)
  sorted_half = sorted_changed a.dir (with_name a.name n) inodes (in_order now)

  sorted_full : T (is_sorted nat_cmp full)
  sorted_full = sorted_changed b.dir (with_name b.name m) half sorted_half

  sorted_once : T (is_sorted nat_cmp held_once)
  sorted_once = sorted_changed m (held_by b.dir) full sorted_full

  first_there : IsTrue (is_some (inode_at inodes a.dir))
  first_there = let led = laws.names t a m now.shows.well can.first in lives_directory now a.dir led.held

  second_there : IsTrue (is_some (inode_at half b.dir))
  second_there = let led = laws.names t b n now.shows.well can.second in still_there a.dir (with_name a.name n) inodes b.dir (lives_directory now b.dir led.held)

  entries_half : entries_of half ≡ put spot_cmp a n (entries_of inodes)
  entries_half = entries_with inodes (in_order now) a.dir a.name n first_there

  entries_full : entries_of full ≡ put spot_cmp b m (entries_of half)
  entries_full = entries_with half sorted_half b.dir b.name m second_there

  entries_last : entries_of last ≡ entries_of full
  entries_last = entries_kept held_once sorted_once n (held_by a.dir) (λ i. refl) ∙ entries_kept full sorted_full m (held_by b.dir) (λ i. refl)

  nodes_full : nodes_of full ≡ nodes_of inodes
  nodes_full = nodes_kept half sorted_half b.dir (with_name b.name m) (λ i. refl) ∙ nodes_kept inodes (in_order now) a.dir (with_name a.name n) (λ i. refl)

  shows_last : Shows (entries_of full) (nodes_of last) next (tree_swapped t a m b n)
  shows_last = after_swap laws a m b n (nodes_of held_once) (nodes_of last) (subst (λ ns. Shows (entries_of inodes) ns next t) (sym nodes_full) now.shows) can (held_set full sorted_full m b.dir) (held_set held_once sorted_once n a.dir)
      entries_half entries_full (held_shown full sorted_full m b.dir) (held_shown held_once sorted_once n a.dir)

  -- each inode has as many names as before
  counted_last : IsCounted None last (entries_of full)
  counted_last q inode e =
      let facts = laws.swap t a m b n now.shows.well can in
      let after = shows_last in
      let had : inode.count ≡ how_many (λ (x : Spot × ℕ). x.1 == q) (entries_of inodes) + 0 =
      counted_changed None held_once (entries_of inodes) (counted_changed None full (entries_of inodes) (counted_changed None half (entries_of inodes)
      (counted_changed None inodes (entries_of inodes) now.counted a.dir (with_name a.name n) (λ i. refl)) b.dir (with_name b.name m) (λ i. refl)) m (held_by b.dir) (λ i. refl)) n (held_by a.dir) (λ i. refl) q inode e in
      let same : how_many (λ (x : Spot × ℕ). x.1 == q) (entries_of full) ≡ how_many (λ (x : Spot × ℕ). x.1 == q) (entries_of inodes) =
      ap (λ (u : Tree). how_many (λ (x : Spot × ℕ). x.1 == q) u.entries) after.shows ∙ facts.still_named q ∙ ap (how_many (λ (x : Spot × ℕ). x.1 == q)) (sym (entries_are now)) in
      omega arith

  swapped_in : Keeps last next (tree_swapped t a m b n)
  swapped_in = record { shows = subst (λ es. Shows es (nodes_of last) next (tree_swapped t a m b n)) (sym entries_last) shows_last; counted = subst (IsCounted None last) (sym entries_last) counted_last }

  -- each name is there when it is to lead elsewhere
  pub first_led : IsSome (led_to inodes a.dir a.name)
  first_led = ap is_some (led_entry now a.dir a.name ∙ can.first)

  pub second_led : {once : List (ℕ × Inode)} → once ≡ half → IsSome (led_to once b.dir b.name)
  second_led is =
      subst (λ is. IsSome (led_to is b.dir b.name)) (sym is) (subst IsSome (found_spot half sorted_half b) (subst (λ es. IsSome (lookup spot_cmp b es)) (sym entries_half) (there_after a b n (entries_of inodes) (ap is_some (ap (lookup spot_cmp b) (entries_are now) ∙ can.second)))))

  -- with what the steps of the code left
  pub after_swaps : {one two three four : List (ℕ × Inode)} → one ≡ half → two ≡ changed b.dir (with_name b.name m) one → three ≡ changed m (held_by b.dir) two → four ≡ changed n (held_by a.dir) three → Keeps four next (tree_swapped t a m b n)
  after_swaps first second third fourth =
      subst (λ is. Keeps is next (tree_swapped t a m b n)) (sym (fourth ∙ ap (changed n (held_by a.dir)) (third ∙ ap (changed m (held_by b.dir)) (second ∙ ap (changed b.dir (with_name b.name m)) first)))) swapped_in
