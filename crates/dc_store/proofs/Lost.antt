-- Inodes after one has lost an entry: its node, and the entries of the others.
use Rattle.std.proofs.Common.{◌≡◌, ℕ, ◌<◌, ◌==◌, List, [], ◌∷◌, Bool, true, false, cond, if◌then◌else◌, map, Option, Some, None, is_some, option_map, IsTrue, IfSome, T, refl, ap, sym, ◌∙◌, subst}
use Rattle.std.specs.FinMap.Entries.{is_sorted, is_sorted-where_key}
use Rattle.std.specs.FinMap.Entries.{find as lookup}
use Rattle.std.specs.List.{AllByRecursion}
use Rattle.std.specs.Ordering.{nat_cmp, eq_by_cmp}
use Rattle.dc_plain.specs.IsWellFormed.{IsWellFormed, Stands}
use Rattle.dc_plain.specs.Trees.{Tree, Spot, spot_cmp, entry_number, inode_of, is_directory_inode, is_live_directory}
use Rattle.dc_store.specs.Inodes.{entries_of, nodes_of, inode_at, changed, one_down, count_kept, inodes_after, without_inode}
use Rattle.dc_store.specs.Maps.{inode_shown, node_shown, node_at, nodes_after}
use Rattle.dc_plain.specs.Spots.{spot_at}
use Rattle.dc_store.specs.declared.inode.Inode.{Inode}
use Rattle.dc_store.specs.declared.node.Node as rust_node
use Rattle.dc_store.proofs.Changed.{sorted_changed, entries_kept, entries_gone}
use Rattle.dc_store.proofs.CountedInodes.{IsCounted, had_name, lost_nodes, lost_counted, lost_kept}
use Rattle.dc_store.proofs.Entered.{found_spot}
use Rattle.dc_store.proofs.NodesKept.{shown_at}
use Rattle.dc_store.proofs.Slots.{found_without}
use Rattle.dc_store.proofs.Spots.{same_spot}
use Rattle.dc_store.proofs.Decides.{itself, some_in}

-- what the loss of an entry leaves
pub record Leaves (lost : Option ℕ) (inodes : List (ℕ × Inode)) (entries : List (Spot × ℕ)) : Type 0 where
  pub nodes : nodes_of (inodes_after lost inodes) ≡ nodes_after lost entries (nodes_of inodes)
  pub counted : IsCounted None (inodes_after lost inodes) entries
  pub kept : (q : ℕ) (node : rust_node.Node) → node_at (nodes_of (inodes_after lost inodes)) q ≡ Some node → node_at (nodes_of inodes) q ≡ Some node

module _ (inodes : List (ℕ × Inode)) (sorted : T (is_sorted nat_cmp inodes)) (entries : List (Spot × ℕ)) where
  pub left : (lost : Option ℕ) → IsCounted lost inodes entries → IfSome lost (λ n. IsTrue (is_some (inode_at inodes n))) → Leaves lost inodes entries
  left None counted lives = record { nodes = refl; counted = counted; kept = λ q node e. e }
  left (Some n) counted lives =
      let (i, is) = some_in (inode_at inodes n) lives in
      record { nodes = lost_nodes inodes sorted entries n counted i is; counted = lost_counted inodes sorted entries n counted i is; kept = lost_kept inodes sorted entries n counted i is }

  pub can_lose : (lost : Option ℕ) → IsCounted lost inodes entries → IfSome lost (λ n. IfSome (inode_at inodes n) (λ inode. 0 < inode.count))
  can_lose None counted = tt
  can_lose (Some n) counted = had_name inodes sorted entries n counted

pub sorted_lost : (lost : Option ℕ) (inodes : List (ℕ × Inode)) → T (is_sorted nat_cmp inodes) → T (is_sorted nat_cmp (inodes_after lost inodes))
sorted_lost None inodes s = s
sorted_lost (Some n) inodes s =
    elim (count_kept (changed n one_down inodes) n == 0) as (λ b. T (is_sorted nat_cmp (if b then without_inode n (changed n one_down inodes) else changed n one_down inodes))) [
      | true ↦ is_sorted-where_key nat_cmp _ (changed n one_down inodes) (sorted_changed n one_down inodes s)
      | false ↦ sorted_changed n one_down inodes s
    ]

-- an entry stands in a live directory
held_by : (t : Tree) (spot : Spot) (es : List (Spot × ℕ)) → AllByRecursion (Stands t) es → (v : ℕ) → lookup spot_cmp spot es ≡ Some v → IsTrue (is_live_directory t spot.dir)
held_by t spot [] all v e = cc
held_by t spot (x ∷ xs) all v e =
    elim (eq_by_cmp spot_cmp spot x.0) as (λ b. eq_by_cmp spot_cmp spot x.0 ≡ b → cond b (Some x.1) (lookup spot_cmp spot xs) ≡ Some v → IsTrue (is_live_directory t spot.dir)) [
      | true ↦ λ same found. subst (λ (s : Spot). IsTrue (is_live_directory t s.dir)) (sym (same_spot spot x.0 same)) all.0.held
      | false ↦ λ other found. held_by t spot xs all.1 v found
    ] refl e

-- if nothing lives there no entry stands
none_stands : (t : Tree) (n : ℕ) (name : List ℕ) → IsWellFormed t → inode_of t n ≡ None → entry_number t (spot_at n name) ≡ None
none_stands t n name well none = by_entry (entry_number t (spot_at n name)) refl
  where
    by_entry : (o : Option ℕ) → entry_number t (spot_at n name) ≡ o → o ≡ None
    by_entry None e = refl
    by_entry (Some v) e =
        let held : is_live_directory t n ≡ true = held_by t (spot_at n name) t.entries well.entries v e in
        let not_held : is_live_directory t n ≡ false = ap is_directory_inode none in cc

-- so what goes takes no entry with it
module _ (inodes : List (ℕ × Inode)) (sorted : T (is_sorted nat_cmp inodes)) (t : Tree) (well : IsWellFormed t) (entries : t.entries ≡ entries_of inodes) where
  pub entries_after : (lost : Option ℕ) → t.inodes ≡ map inode_shown (nodes_of (inodes_after lost inodes)) → entries_of (inodes_after lost inodes) ≡ entries_of inodes
  entries_after None is = refl
  entries_after (Some n) is = by_test (count_kept less n == 0) is
    where
      less : List (ℕ × Inode)
      less = changed n one_down inodes

      same : entries_of (changed n one_down inodes) ≡ entries_of inodes
      same = entries_kept inodes sorted n one_down (λ inode. refl)

      gone : t.inodes ≡ map inode_shown (nodes_of (without_inode n (changed n one_down inodes))) → inode_of t n ≡ None
      gone is' =
          ap (lookup nat_cmp n) is' ∙ shown_at n (without_inode n (changed n one_down inodes)) ∙ ap (option_map (λ (i : Inode). node_shown i.node)) (found_without n (changed n one_down inodes) n
          ∙ ap (λ b. cond b None (inode_at (changed n one_down inodes) n)) (itself n))

      by_test : (b : Bool) → t.inodes ≡ map inode_shown (nodes_of (if b then without_inode n (changed n one_down inodes) else changed n one_down inodes))
          → entries_of (if b then without_inode n (changed n one_down inodes) else changed n one_down inodes) ≡ entries_of inodes
      by_test true is' =
          entries_gone (changed n one_down inodes) (sorted_changed n one_down inodes sorted) n (λ name.
          sym (found_spot (changed n one_down inodes) (sorted_changed n one_down inodes sorted) (spot_at n name)) ∙ ap (lookup spot_cmp (spot_at n name)) (same ∙ sym entries) ∙ none_stands t n name well (gone is'))
          ∙ same
      by_test false is' = same
