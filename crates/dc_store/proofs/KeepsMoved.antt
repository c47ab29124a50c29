-- A store of inodes that stands for a tree, without an entry, or with it at another place.
use Rattle.std.proofs.Common.{◌≡◌, ℕ, ◌+◌, ◌<◌, ◌==◌, List, Bool, true, false, cond, map, Option, Some, None, is_some, option_map, IsTrue, IfSome, T, refl, ap, sym, ◌∙◌, subst, arith}
use Rattle.std.specs.FinMap.Entries.{put, is_sorted}
use Rattle.std.specs.FinMap.Entries.{find as lookup}
use Rattle.std.specs.Ordering.{nat_cmp, eq_by_cmp}
use Rattle.dc_names.specs.Bytes.{is_name}
use Rattle.dc_plain.specs.Conditions.{CanLose, CanMove}
use Rattle.dc_plain.specs.Effects.{without_entry, tree_moved}
use Rattle.dc_plain.specs.Trees.{Tree, Spot, spot_cmp, how_many, entry_number, without_spot}
use Rattle.dc_store.specs.Dropped.{CanDrop}
use Rattle.dc_store.specs.Inodes.{entries_of, nodes_of, inode_at, led_to, changed, with_name, less_name, inodes_after, held_by}
use Rattle.dc_store.specs.Maps.{inode_shown, node_at, nodes_after}
use Rattle.dc_store.specs.Laws.{TreeLaws}
use Rattle.dc_store.specs.Moved as moved
use Rattle.dc_plain.specs.Spots.{spot_at}
use Rattle.dc_store.specs.declared.inode.Inode.{Inode}
use Rattle.dc_store.proofs.Changed.{found_changed, sorted_changed, entries_kept, entries_with, entries_less}
use Rattle.dc_store.proofs.CountedInodes.{IsCounted, one, counted_changed}
use Rattle.dc_store.proofs.Dropped.{entries_left, after_drop, is_some_at}
use Rattle.dc_store.proofs.Entered.{found_spot}
use Rattle.dc_store.proofs.Keeps.{Keeps, in_order, entries_are, lives, lives_directory}
use Rattle.dc_store.proofs.Lost.{Leaves, left, can_lose, sorted_lost, entries_after}
use Rattle.dc_store.proofs.Moves.{after_move, entries_moved}
use Rattle.dc_store.proofs.NameCounts.{names_lost, names_moved}
use Rattle.dc_store.proofs.NodesKept.{nodes_kept, held_shown, held_set}
use Rattle.dc_store.proofs.Stores.{Shows}

still_some : (f : Inode → Inode) (b : Bool) (o : Option Inode) → IsTrue (is_some o) → IsTrue (is_some (cond b (option_map f o) o))
still_some f b None h = absurd cc
still_some f true (Some i) h = refl
still_some f false (Some i) h = refl

-- an inode is there as another one changes
pub still_there : (n : ℕ) (f : Inode → Inode) (inodes : List (ℕ × Inode)) (q : ℕ) → IsTrue (is_some (inode_at inodes q)) → IsTrue (is_some (inode_at (changed n f inodes) q))
still_there n f inodes q h = ap is_some (found_changed n f inodes q) ∙ still_some f (eq_by_cmp nat_cmp q n) (inode_at inodes q) h

module _ {inodes : List (ℕ × Inode)} {next : ℕ} {t : Tree} (now : Keeps inodes next t) where
  -- where a name leads, in the entries and in the tree
  pub led_spot : (d : ℕ) (name : List ℕ) → led_to inodes d name ≡ lookup spot_cmp (spot_at d name) (entries_of inodes)
  led_spot d name = sym (found_spot inodes (in_order now) (spot_at d name))

  pub led_entry : (d : ℕ) (name : List ℕ) → led_to inodes d name ≡ entry_number t (spot_at d name)
  led_entry d name = led_spot d name ∙ ap (lookup spot_cmp (spot_at d name)) (entries_are now)

  -- what is left after an inode lost an entry
  keeps_after : (lost : Option ℕ) (less : List (ℕ × Inode)) {last : List (ℕ × Inode)} {u : Tree} → T (is_sorted nat_cmp less) → Shows (entries_of less) (nodes_of last) next u → map inode_shown (nodes_of last) ≡ map inode_shown (nodes_of (inodes_after lost less))
      → entries_of last ≡ entries_of (inodes_after lost less) → IsCounted None last (entries_of less) → Keeps last next u
  keeps_after lost less {last = last} {u = u} sorted after shown same counted =
      let is = same ∙ entries_after less sorted u after.well (sym (ap (λ (w : Tree). w.entries) after.shows)) lost (sym (ap (λ (w : Tree). w.inodes) after.shows) ∙ shown) in
      record { shows = subst (λ es. Shows es (nodes_of last) next u) (sym is) after; counted = subst (IsCounted None last) (sym is) counted }

  module _ (laws : TreeLaws) where
    -- what an entry leads to is there
    led_lives : (spot : Spot) (n : ℕ) → entry_number t spot ≡ Some n → IsTrue (is_some (inode_at inodes n))
    led_lives spot n e = let led = laws.names t spot n now.shows.well e in lives now n led.lives

    module _ (d : ℕ) (name : List ℕ) (may : CanDrop t (spot_at d name)) where
      entries_taken : entries_of (changed d (less_name name) inodes) ≡ without_spot (spot_at d name) (entries_of inodes)
      entries_taken = entries_less inodes (in_order now) d name

      sorted_taken : T (is_sorted nat_cmp (changed d (less_name name) inodes))
      sorted_taken = sorted_changed d (less_name name) inodes (in_order now)

      leads_to : (n : ℕ) × (led_to inodes d name ≡ Some n) × CanLose t d name n
      leads_to = let (n, leads, empty) = is_some_at (entry_number t (spot_at d name)) _ may in (n, led_entry d name ∙ leads, record { leads = leads; empty = empty })

      counted_taken : IsCounted (led_to inodes d name) (changed d (less_name name) inodes) (entries_of (changed d (less_name name) inodes))
      counted_taken q inode e =
          let (n, is, can) = leads_to in
          let had : inode.count ≡ how_many (λ (x : Spot × ℕ). x.1 == q) (entries_of inodes) + 0 = counted_changed None inodes (entries_of inodes) now.counted d (less_name name) (λ i. refl) q inode e in
          let fewer : how_many (λ (x : Spot × ℕ). x.1 == q) (entries_of inodes) ≡ how_many (λ (x : Spot × ℕ). x.1 == q) (without_spot (spot_at d name) (entries_of inodes)) + cond (n == q) 1 0 =
          ap (how_many (λ (x : Spot × ℕ). x.1 == q)) (entries_are now) ∙ names_lost laws t now.shows.well d name n can q
          ∙ ap (λ es. how_many (λ (x : Spot × ℕ). x.1 == q) es + cond (n == q) 1 0) (entries_left t d name n ∙ ap (without_spot (spot_at d name)) (sym (entries_are now))) in
          let same : how_many (λ (x : Spot × ℕ). x.1 == q) (entries_of (changed d (less_name name) inodes)) ≡ how_many (λ (x : Spot × ℕ). x.1 == q) (without_spot (spot_at d name) (entries_of inodes)) = ap (how_many (λ (x : Spot × ℕ). x.1 == q)) entries_taken in
          let lost : one (led_to inodes d name) q ≡ cond (n == q) 1 0 = ap (λ o. one o q) is in
          omega arith

      pub drop_can_lose : IfSome (led_to inodes d name) (λ n. IfSome (inode_at (changed d (less_name name) inodes) n) (λ inode. 0 < inode.count))
      drop_can_lose = can_lose (changed d (less_name name) inodes) sorted_taken (entries_of (changed d (less_name name) inodes)) (led_to inodes d name) counted_taken

      drop_leaves : Leaves (led_to inodes d name) (changed d (less_name name) inodes) (entries_of (changed d (less_name name) inodes))
      drop_leaves =
          let (n, is, can) = leads_to in
          left (changed d (less_name name) inodes) sorted_taken (entries_of (changed d (less_name name) inodes)) (led_to inodes d name) counted_taken
          (subst (λ o. IfSome o (λ m. IsTrue (is_some (inode_at (changed d (less_name name) inodes) m)))) (sym is) (still_there d (less_name name) inodes n (led_lives (spot_at d name) n can.leads)))

      nodes_taken : nodes_of (changed d (less_name name) inodes) ≡ nodes_of inodes
      nodes_taken = nodes_kept inodes (in_order now) d (less_name name) (λ i. refl)

      pub dropped_in : (n : ℕ) × (entry_number t (spot_at d name) ≡ Some n) × Keeps (inodes_after (led_to inodes d name) (changed d (less_name name) inodes)) next (without_entry t d name n)
      dropped_in =
          let leaves = drop_leaves in
          let (n, leads, after) = after_drop laws d name now.shows may entries_taken (led_spot d name) (leaves.nodes ∙ ap (nodes_after (led_to inodes d name) (entries_of (changed d (less_name name) inodes))) nodes_taken)
          (λ q node e. ap (λ ns. node_at ns q) (sym nodes_taken) ∙ leaves.kept q node e) in
          (n, leads, keeps_after (led_to inodes d name) (changed d (less_name name) inodes) sorted_taken after refl refl leaves.counted)

    module _ (from : ℕ) (old : List ℕ) (to : ℕ) (new : List ℕ) (n : ℕ) (named : IsTrue (is_name new)) (leads : entry_number t (spot_at from old) ≡ Some n) (stands : moved.CanStandAt t (spot_at to new) n) where
      abbrev with_new : List (ℕ × Inode)
      with_new = changed to (with_name new n) inodes

      abbrev without_old : List (ℕ × Inode)
      without_old = changed from (less_name old) with_new

      may : CanMove t from old to new n
      may = record { leads = leads; stands = stands; named = named }

      sorted_new : T (is_sorted nat_cmp with_new)
      sorted_new = sorted_changed to (with_name new n) inodes (in_order now)

      sorted_old : T (is_sorted nat_cmp without_old)
      sorted_old = sorted_changed from (less_name old) with_new sorted_new

      entries_new : entries_of with_new ≡ put spot_cmp (spot_at to new) n (entries_of inodes)
      entries_new = entries_with inodes (in_order now) to new n (lives_directory now to stands.directory)

      entries_old : entries_of without_old ≡ without_spot (spot_at from old) (entries_of with_new)
      entries_old = entries_less with_new sorted_new from old

      all_moved : entries_of without_old ≡ (tree_moved t from old to new n).entries
      all_moved = entries_old ∙ ap (without_spot (spot_at from old)) entries_new ∙ entries_moved laws from old to new n now.shows may

      counted_old : IsCounted (led_to inodes to new) without_old (entries_of without_old)
      counted_old q inode e =
          let had : inode.count ≡ how_many (λ (x : Spot × ℕ). x.1 == q) (entries_of inodes) + 0 =
          counted_changed None with_new (entries_of inodes) (counted_changed None inodes (entries_of inodes) now.counted to (with_name new n) (λ i. refl)) from (less_name old) (λ i. refl) q inode e in
          let fewer : how_many (λ (x : Spot × ℕ). x.1 == q) (entries_of inodes) ≡ how_many (λ (x : Spot × ℕ). x.1 == q) (entries_of without_old) + one (led_to inodes to new) q =
          ap (how_many (λ (x : Spot × ℕ). x.1 == q)) (entries_are now) ∙ names_moved laws t now.shows.well from old to new n may q
          ∙ (λ i. how_many (λ (x : Spot × ℕ). x.1 == q) (sym all_moved i) + one (sym (led_entry to new) i) q) in
          omega arith

      move_can_lose : IfSome (led_to inodes to new) (λ m. IfSome (inode_at without_old m) (λ inode. 0 < inode.count))
      move_can_lose = can_lose without_old sorted_old (entries_of without_old) (led_to inodes to new) counted_old

      move_leaves : Leaves (led_to inodes to new) without_old (entries_of without_old)
      move_leaves = left without_old sorted_old (entries_of without_old) (led_to inodes to new) counted_old (by_lost (led_to inodes to new) (led_entry to new))
        where
          by_lost : (o : Option ℕ) → o ≡ entry_number t (spot_at to new) → IfSome o (λ m. IsTrue (is_some (inode_at without_old m)))
          by_lost None e = tt
          by_lost (Some m) e = still_there from (less_name old) with_new m (still_there to (with_name new n) inodes m (led_lives (spot_at to new) m (sym e)))

      nodes_old : nodes_of without_old ≡ nodes_of inodes
      nodes_old = nodes_kept with_new sorted_new from (less_name old) (λ i. refl) ∙ nodes_kept inodes (in_order now) to (with_name new n) (λ i. refl)

      abbrev left_over : List (ℕ × Inode)
      left_over = inodes_after (led_to inodes to new) without_old

      moved_in : Keeps (changed n (held_by to) left_over) next (tree_moved t from old to new n)
      moved_in =
          let leaves = move_leaves in
          let sorted_left = sorted_lost (led_to inodes to new) without_old sorted_old in
          let shown = held_shown left_over sorted_left n to in
          let after = after_move laws from old to new n now.shows named leads stands entries_new (led_spot to new) entries_old
          (leaves.nodes ∙ ap (nodes_after (led_to inodes to new) (entries_of without_old)) nodes_old) (λ q node e. ap (λ ns. node_at ns q) (sym nodes_old) ∙ leaves.kept q node e) shown (held_set left_over sorted_left n to) in
          keeps_after (led_to inodes to new) without_old sorted_old after shown (entries_kept left_over sorted_left n (held_by to) (λ i. refl))
          (counted_changed None left_over (entries_of without_old) leaves.counted n (held_by to) (λ i. refl))

      -- with what the steps of the code left
      module _ {entered taken : List (ℕ × Inode)} {replaced : Option ℕ} (put_in : entered ≡ changed to (with_name new n) inodes) (was : replaced ≡ led_to inodes to new) (out : taken ≡ changed from (less_name old) entered) where
        taken_is : taken ≡ without_old
        taken_is = out ∙ ap (changed from (less_name old)) put_in

        pub can_lose_replaced : IfSome replaced (λ m. IfSome (inode_at taken m) (λ inode. 0 < inode.count))
        can_lose_replaced =
            subst (λ o. IfSome o (λ m. IfSome (inode_at taken m) (λ inode. 0 < inode.count))) (sym was)
            (subst (λ es. IfSome (led_to inodes to new) (λ m. IfSome (inode_at es m) (λ inode. 0 < inode.count))) (sym taken_is) move_can_lose)

        pub after_steps : {rest last : List (ℕ × Inode)} → rest ≡ inodes_after replaced taken → last ≡ changed n (held_by to) rest → Keeps last next (tree_moved t from old to new n)
        after_steps lost set =
            subst (λ es. Keeps es next (tree_moved t from old to new n)) (sym (set ∙ ap (changed n (held_by to)) (lost ∙ (λ i. inodes_after (was i) (taken_is i))))) moved_in
