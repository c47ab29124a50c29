-- A store with an entry at another place.
use Rattle.std.proofs.Common.{◌≡◌, ℕ, ◌==◌, not, List, Bool, true, false, cond, map, Option, Some, None, IfSome, IsTrue, option_map, option_and_then, refl, ap, sym, ◌∙◌, subst, if◌then◌else◌}
use Rattle.std.specs.FinMap.Entries.{find, put, is_sorted, is_sorted-where_key}
use Rattle.std.specs.BTreeMap.{is_at}
use Rattle.std.specs.Map.{remove_entry}
use Rattle.std.specs.Ordering.{nat_cmp, eq_by_cmp}
use Rattle.dc_names.specs.Bytes.{is_name}
use Rattle.dc_plain.specs.Conditions.{CanMove, is_full_directory}
use Rattle.dc_plain.specs.EffectFacts.{MovesName}
use Rattle.dc_plain.specs.Effects.{without_entry, without_there, cleared, tree_moved}
use Rattle.dc_plain.specs.Spots.{spot_at}
use Rattle.dc_plain.specs.Trees.{Tree, Spot, spot_cmp, how_many, inode_of, entry_number, target_at, kind_of, holder_of, is_directory_inode, is_live_directory, without_spot}
use Rattle.dc_store.specs.Laws.{TreeLaws}
use Rattle.dc_store.specs.Maps.{inode_shown, node_at, nodes_after, parent_in, with_parent}
use Rattle.dc_store.specs.Moved as moved
use Rattle.dc_store.specs.declared.node.Node as rust_node
use Rattle.dc_store.specs.declared.node.Node.TheVariants as kinds
use Rattle.dc_store.proofs.Dropped.{entries_left, dropped}
use Rattle.dc_store.proofs.MovedEntries.{moved_alone, moved_over}
use Rattle.dc_store.proofs.Spots.{same_spot}
use Rattle.dc_store.proofs.Stores.{Shows, lives_as}
use Rattle.dc_store.proofs.Decides.{to_test, from_test, decided, decided_not, other_test, some_in}

-- a directory with another parent
pub new_parent : (to up : ℕ) (o : Option rust_node.Node) → option_map (with_parent to) o ≡ Some (kinds.Dir up) → (up ≡ to) × (old : ℕ) × (o ≡ Some (kinds.Dir old))
new_parent to up None e = absurd cc
new_parent to up (Some (kinds.Dir old)) e = (cc, old, refl)
new_parent to up (Some kinds.File) e = absurd cc
new_parent to up (Some (kinds.Link text)) e = absurd cc

module _ (laws : TreeLaws) (from : ℕ) (old : List ℕ) (to : ℕ) (new : List ℕ) (n : ℕ) {entries : List (Spot × ℕ)} {nodes : List (ℕ × rust_node.Node)} {next : ℕ} {t : Tree} (now : Shows entries nodes next t)
    (can : CanMove t from old to new n) where
  facts : MovesName t from old to new n (tree_moved t from old to new n)
  facts = laws.move t from old to new n now.well can

  entries_are : entries ≡ t.entries
  entries_are = ap (λ (u : Tree). u.entries) now.shows

  in_order : IsTrue (is_sorted spot_cmp entries)
  in_order = let well = now.well in subst (λ es. IsTrue (is_sorted spot_cmp es)) (sym entries_are) well.entries_in_order

  spots_apart : eq_by_cmp spot_cmp (spot_at from old) (spot_at to new) ≡ false
  spots_apart = by_test (eq_by_cmp spot_cmp (spot_at from old) (spot_at to new)) refl
    where
      by_test : (o : Bool) → eq_by_cmp spot_cmp (spot_at from old) (spot_at to new) ≡ o → o ≡ false
      by_test false e = refl
      by_test true e = let stands = can.stands in absurd (stands.other (ap (entry_number t) (sym (same_spot (spot_at from old) (spot_at to new) e)) ∙ can.leads))

  -- what stands at the new name goes first
  cleared_over : (m : ℕ) → entry_number t (spot_at to new) ≡ Some m → cleared t to new ≡ without_entry t to new m
  cleared_over m there =
      let led = laws.names t (spot_at to new) m now.well there in
      let (i, is) = some_in (inode_of t m) led.lives in
      ap (λ o. without_there t to new (option_and_then (target_at t) o)) there ∙ ap (λ o. without_there t to new (option_map (λ inode. (m, kind_of inode)) o)) is

  entries_over : (m : ℕ) → entry_number t (spot_at to new) ≡ Some m → without_spot (spot_at to new) entries ≡ (cleared t to new).entries
  entries_over m there = ap (without_spot (spot_at to new)) entries_are ∙ sym (entries_left t to new m) ∙ ap (λ (u : Tree). u.entries) (sym (cleared_over m there))

  pub entries_moved : without_spot (spot_at from old) (put spot_cmp (spot_at to new) n entries) ≡ (tree_moved t from old to new n).entries
  entries_moved = by_there (entry_number t (spot_at to new)) refl
    where
      by_there : (o : Option ℕ) → entry_number t (spot_at to new) ≡ o → without_spot (spot_at from old) (put spot_cmp (spot_at to new) n entries) ≡ put spot_cmp (spot_at to new) n (without_spot (spot_at from old) (cleared t to new).entries)
      by_there None free =
          let clears = facts.clears in
          moved_alone (spot_at from old) (spot_at to new) n entries in_order spots_apart
          ∙ ap (λ es. put spot_cmp (spot_at to new) n (without_spot (spot_at from old) es)) (entries_are ∙ ap (λ (u : Tree). u.entries) (sym (clears.alone free)))
      by_there (Some m) there =
          moved_over (spot_at from old) (spot_at to new) n entries in_order spots_apart (from_test _ (is_sorted-where_key spot_cmp _ entries (to_test _ in_order)))
          ∙ ap (λ es. put spot_cmp (spot_at to new) n (without_spot (spot_at from old) es)) (entries_over m there)

  module _ {fewer last : List (ℕ × rust_node.Node)} (kept : (q : ℕ) (node : rust_node.Node) → node_at fewer q ≡ Some node → node_at nodes q ≡ Some node) (shown : map inode_shown last ≡ map inode_shown fewer)
      (set : (q : ℕ) → node_at last q ≡ (if q == n then option_map (with_parent to) (node_at fewer q) else node_at fewer q)) where
    after_clearing : {rest : List (Spot × ℕ)} → Shows rest fewer next (cleared t to new) → Shows (without_spot (spot_at from old) (put spot_cmp (spot_at to new) n entries)) last next (tree_moved t from old to new n)
    after_clearing left = record {
      shows = λ i. record { entries = entries_moved i; inodes = (shown ∙ ap (λ (u : Tree). u.inodes) left.shows) i; next = ap (λ (u : Tree). u.next) left.shows i };
      well = laws.move_keeps t from old to new n now.well can;
      parents = λ q up e.
          elim (q == n) as (λ b. (q == n) ≡ b → (if b then option_map (with_parent to) (node_at fewer q) else node_at fewer q) ≡ Some (kinds.Dir up) → parent_in (tree_moved t from old to new n) q ≡ Some up) [
            | true ↦ λ is got.
                let here : q ≡ n = decided q n is in
                let (up_is, before, was) = new_parent to up (node_at fewer q) got in
                let live : IsTrue (is_live_directory t n) = ap is_directory_inode (ap (inode_of t) (sym here) ∙ lives_as now q (kinds.Dir before) (kept q (kinds.Dir before) was)) in
                let led = laws.names t (spot_at from old) n now.well can.leads in
                ap (parent_in (tree_moved t from old to new n)) here ∙ ap (λ b. cond b (Some 1) (holder_of (tree_moved t from old to new n) n)) (other_test n 1 led.not_root)
                ∙ facts.held live ∙ ap (λ k. Some k) (sym up_is)
            | false ↦ λ is got. ap (cond (q == 1) (Some 1)) (facts.still_held q (decided_not q n is)) ∙ left.parents q up got
          ] refl (sym (set q) ∙ e);
    }

    pub over_any : (o : Option ℕ) → entry_number t (spot_at to new) ≡ o → fewer ≡ nodes_after o (without_spot (spot_at from old) (put spot_cmp (spot_at to new) n entries)) nodes
        → Shows (without_spot (spot_at from old) (put spot_cmp (spot_at to new) n entries)) last next (tree_moved t from old to new n)
    over_any None free cut =
        let clears = facts.clears in
        after_clearing (subst (Shows entries fewer next) (sym (clears.alone free)) (subst (λ ns. Shows entries ns next t) (sym cut) now))
    over_any (Some m) there cut =
        let stands = can.stands in
        let empty = subst (λ o. IfSome o (λ k. IsTrue (not (is_full_directory t k)))) there stands.gives_way in
        let counted : how_many (λ e. e.1 == m) (without_spot (spot_at from old) (put spot_cmp (spot_at to new) n entries)) ≡ how_many (λ e. e.1 == m) (without_spot (spot_at to new) entries) =
        ap (how_many (λ e. e.1 == m)) entries_moved ∙ facts.still_named m ∙ ap (how_many (λ e. e.1 == m)) (sym (entries_over m there)) in
        after_clearing (subst (Shows (without_spot (spot_at to new) entries) fewer next) (sym (cleared_over m there))
        (dropped laws now to new m (record { leads = there; empty = empty }) fewer (cut ∙ ap (λ k. if k == 0 then remove_entry (is_at (nat_cmp m)) nodes else nodes) counted) kept))

-- with what the steps of the code answered
pub after_move : TreeLaws → {entries more less : List (Spot × ℕ)} {nodes fewer last : List (ℕ × rust_node.Node)} {next : ℕ} {t : Tree} {lost : Option ℕ} (from : ℕ) (old : List ℕ) (to : ℕ) (new : List ℕ) (n : ℕ)
    → Shows entries nodes next t → IsTrue (is_name new) → entry_number t (spot_at from old) ≡ Some n → moved.CanStandAt t (spot_at to new) n
    → more ≡ put spot_cmp (spot_at to new) n entries → lost ≡ find spot_cmp (spot_at to new) entries → less ≡ without_spot (spot_at from old) more
    → fewer ≡ nodes_after lost less nodes → ((q : ℕ) (node : rust_node.Node) → node_at fewer q ≡ Some node → node_at nodes q ≡ Some node) → map inode_shown last ≡ map inode_shown fewer
    → ((q : ℕ) → node_at last q ≡ (if q == n then option_map (with_parent to) (node_at fewer q) else node_at fewer q))
    → Shows less last next (tree_moved t from old to new n)
after_move laws {nodes = nodes} {last = last} {next = next} {t = t} {lost = lost} from old to new n now named leads stands entered was taken cut kept shown set =
    let at : (spot : Spot) → entry_number t spot ≡ find spot_cmp spot _ = λ spot. ap (λ (u : Tree). entry_number u spot) (sym now.shows) in
    let less_is = taken ∙ ap (without_spot (spot_at from old)) entered in
    subst (λ es. Shows es last next (tree_moved t from old to new n)) (sym less_is)
    (over_any laws from old to new n now (record { leads = leads; stands = stands; named = named }) kept shown set lost (at (spot_at to new) ∙ sym was) (cut ∙ ap (λ es. nodes_after lost es nodes) less_is))
