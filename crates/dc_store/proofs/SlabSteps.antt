-- What steps on the inodes of a store come to, one after the other.
use Rattle.std.proofs.Common.{◌≡◌, ℕ, ◌+◌, ◌<◌, ◌^◌, List, [], IsSome, ap, ◌∙◌}
use Rattle.std.specs.FinMap.Entries.{put}
use Rattle.std.specs.Ordering.{nat_cmp}
use Rattle.dc_plain.specs.Conditions as plain
use Rattle.dc_plain.specs.Conditions.{IsFree}
use Rattle.dc_plain.specs.Effects.{tree_swapped, with_new}
use Rattle.dc_plain.specs.Trees.{Tree, Spot}
use Rattle.dc_store.specs.Inodes.{changed, held_by, led_to, tree_of, with_name, without_inode}
use Rattle.dc_store.specs.Laws.{TreeLaws}
use Rattle.dc_store.specs.Maps.{node_shown, CanKeep}
use Rattle.dc_store.specs.Slabs.{IsTied}
use Rattle.dc_store.specs.declared.inode.Inode.{Inode}
use Rattle.dc_store.specs.declared.node.Node as rust_node
use Rattle.dc_store.proofs.Keeps.{Keeps, keeps_now, tied_as, made_in, taken_back}
use Rattle.dc_store.proofs.KeepsSwapped.{first_led, second_led, after_swaps}

module _ {inodes : List (ℕ × Inode)} {next : ℕ} {t : Tree} (now : Keeps inodes next t) (laws : TreeLaws) where
  -- an inode that no entry was made for goes again
  pub taken_out : (inode : Inode) {added same back : List (ℕ × Inode)} → added ≡ put nat_cmp next inode inodes → same ≡ added → back ≡ without_inode next same → Keeps back next t
  taken_out inode put_in still gone = taken_back now laws inode put_in (gone ∙ ap (without_inode next) still)

  -- a new inode has no names in it, and one that leads to it
  pub made_empty : (d : ℕ) (name : List ℕ) → IsFree t d name → (node : rust_node.Node) → t.next < 2 ^ 63 → CanKeep d node → {names : List (List ℕ × ℕ)} {added more : List (ℕ × Inode)}
      → names ≡ [] → added ≡ put nat_cmp next (record { node = node; names = names; count = 1 }) inodes → more ≡ changed d (with_name name next) added → Keeps more (next + 1) (with_new t d name (node_shown node))
  made_empty d name free node low can none put_in entered =
      made_in now laws d name free node low can (put_in ∙ ap (λ names. put {X = Inode} nat_cmp next (record { node = node; names = names; count = 1 }) inodes) none) entered

module _ (laws : TreeLaws) (a b : Spot) (m n : ℕ) {inodes : List (ℕ × Inode)} {next : ℕ} {t : Tree} (tied : IsTied inodes next) (view : tree_of inodes next ≡ t)
    (may : plain.CanSwap t a m b n) where
  -- both names are there as each is written
  pub first_ready : IsSome (led_to inodes a.dir a.name)
  first_ready = first_led laws a m b n (keeps_now tied view) may

  pub second_ready : {once : List (ℕ × Inode)} → once ≡ changed a.dir (with_name a.name n) inodes → IsSome (led_to once b.dir b.name)
  second_ready is = second_led laws a m b n (keeps_now tied view) may is

  module _ {one two three four : List (ℕ × Inode)} (put_first : one ≡ changed a.dir (with_name a.name n) inodes) (put_second : two ≡ changed b.dir (with_name b.name m) one)
      (first_held : three ≡ changed m (held_by b.dir) two) (second_held : four ≡ changed n (held_by a.dir) three) where
    keeps : Keeps four next (tree_swapped t a m b n)
    keeps = after_swaps laws a m b n (keeps_now tied view) may put_first put_second first_held second_held

    -- and then the store is that of the swapped tree
    pub still_tied : IsTied four next
    still_tied = tied_as keeps

    pub has_swapped : tree_of four next ≡ tree_swapped t a m b n
    has_swapped = let now = keeps in now.shows.shows
