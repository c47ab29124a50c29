-- A store in which two names have swapped what they lead to.
use Rattle.std.proofs.Common.{◌≡◌, ℕ, ◌==◌, List, Bool, true, false, cond, map, Some, IsTrue, option_map, refl, ap, sym, ◌∙◌, if◌then◌else◌}
use Rattle.std.specs.FinMap.Entries.{put}
use Rattle.dc_plain.specs.Conditions as plain
use Rattle.dc_plain.specs.EffectFacts.{SwapsNames}
use Rattle.dc_plain.specs.Effects.{tree_swapped}
use Rattle.dc_plain.specs.Trees.{Tree, Spot, spot_cmp, inode_of, entry_number, holder_of, is_directory_inode, is_live_directory}
use Rattle.dc_store.specs.Laws.{TreeLaws}
use Rattle.dc_store.specs.Maps.{inode_shown, node_at, parent_in, with_parent}
use Rattle.dc_store.specs.Nodes.{WritesParent}
use Rattle.dc_store.specs.declared.node.Node as rust_node
use Rattle.dc_store.specs.declared.node.Node.TheVariants as kinds
use Rattle.dc_store.proofs.Decides.{decided, decided_not, other_test}
use Rattle.dc_store.proofs.Moves.{new_parent}
use Rattle.dc_store.proofs.Stores.{Shows, lives_as}

module _ (laws : TreeLaws) (a : Spot) (m : ℕ) (b : Spot) (n : ℕ) (one two : List (ℕ × rust_node.Node)) {entries : List (Spot × ℕ)} {nodes : List (ℕ × rust_node.Node)} {next : ℕ} {t : Tree} (now : Shows entries nodes next t)
    (can : plain.CanSwap t a m b n) (first_set : WritesParent m b.dir nodes one) (second_set : WritesParent n a.dir one two) where
  facts : SwapsNames t a m b n (tree_swapped t a m b n)
  facts = laws.swap t a m b n now.well can

  -- a directory that was written a parent was one, and has that parent
  held : (k dir up : ℕ) (spot : Spot) → entry_number t spot ≡ Some k → (IsTrue (is_live_directory t k) → (up ≡ dir) → parent_in (tree_swapped t a m b n) k ≡ Some up) → (q : ℕ) → (q == k) ≡ true
      → option_map (with_parent dir) (node_at nodes q) ≡ Some (kinds.Dir up) → parent_in (tree_swapped t a m b n) q ≡ Some up
  held k dir up spot leads so q is got =
      let here : q ≡ k = decided q k is in
      let (up_is, before, was) = new_parent dir up (node_at nodes q) got in
      let live : IsTrue (is_live_directory t k) = ap is_directory_inode (ap (inode_of t) (sym here) ∙ lives_as now q (kinds.Dir before) was) in
      ap (parent_in (tree_swapped t a m b n)) here ∙ so live up_is

  parent_of : (k dir : ℕ) (spot : Spot) → entry_number t spot ≡ Some k → (IsTrue (is_live_directory t k) → parent_in (tree_swapped t a m b n) k ≡ Some dir) → (up : ℕ) → IsTrue (is_live_directory t k) → up ≡ dir → parent_in (tree_swapped t a m b n) k ≡ Some up
  parent_of k dir spot leads so up live is = so live ∙ ap (λ k. Some k) (sym is)

  first_parent : IsTrue (is_live_directory t m) → parent_in (tree_swapped t a m b n) m ≡ Some b.dir
  first_parent live =
      let led = laws.names t a m now.well can.first in
      ap (λ c. cond c (Some 1) (holder_of (tree_swapped t a m b n) m)) (other_test m 1 led.not_root) ∙ facts.held live

  second_parent : IsTrue (is_live_directory t n) → parent_in (tree_swapped t a m b n) n ≡ Some a.dir
  second_parent live =
      let led = laws.names t b n now.well can.second in
      ap (λ c. cond c (Some 1) (holder_of (tree_swapped t a m b n) n)) (other_test n 1 led.not_root) ∙ facts.held_too live

  -- by which of the two it is
  by_first : (q up : ℕ) (c : Bool) → (q == m) ≡ c → (q == n) ≡ false → (if c then option_map (with_parent b.dir) (node_at nodes q) else node_at nodes q) ≡ Some (kinds.Dir up) → parent_in (tree_swapped t a m b n) q ≡ Some up
  by_first q up true is not_n got = held m b.dir up a can.first (parent_of m b.dir a can.first first_parent up) q is got
  by_first q up false is not_n got = ap (cond (q == 1) (Some 1)) (facts.still_held q (decided_not q m is) (decided_not q n not_n)) ∙ now.parents q up got

  by_second : (q up : ℕ) (c : Bool) → (q == n) ≡ c → (if c then option_map (with_parent a.dir) (node_at one q) else node_at one q) ≡ Some (kinds.Dir up) → parent_in (tree_swapped t a m b n) q ≡ Some up
  by_second q up true is got =
      let not_m : (q == m) ≡ false = other_test q m (λ same. can.two (sym same ∙ decided q n is)) in
      held n a.dir up b can.second (parent_of n a.dir b can.second second_parent up) q is
      (ap (option_map (with_parent a.dir)) (sym (first_set q ∙ ap (λ c. if c then option_map (with_parent b.dir) (node_at nodes q) else node_at nodes q) not_m)) ∙ got)
  by_second q up false is got = by_first q up (q == m) refl is (sym (first_set q) ∙ got)

  -- with what the steps of the code left
  pub after_swap : {half full : List (Spot × ℕ)} → half ≡ put spot_cmp a n entries → full ≡ put spot_cmp b m half → map inode_shown one ≡ map inode_shown nodes → map inode_shown two ≡ map inode_shown one
      → Shows full two next (tree_swapped t a m b n)
  after_swap put_first put_second first_shown second_shown =
      let entries_are = put_second ∙ ap (put spot_cmp b m) put_first ∙ ap (λ (u : Tree). put spot_cmp b m (put spot_cmp a n u.entries)) now.shows in record {
        shows = λ i. record { entries = entries_are i; inodes = (second_shown ∙ first_shown ∙ ap (λ (u : Tree). u.inodes) now.shows) i; next = ap (λ (u : Tree). u.next) now.shows i };
        well = laws.swap_keeps t a m b n now.well can;
        parents = λ q up e. by_second q up (q == n) refl (sym (second_set q) ∙ e);
      }
