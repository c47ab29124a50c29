-- A store with a new node and an entry for it.
use Rattle.std.proofs.Common.{◌≡◌, ℕ, ◌+◌, ◌<◌, ◌==◌, List, Bool, true, false, cond, Option, Some, None, map, option_map, refl, ap, sym, ◌∙◌, subst, arith}
use Rattle.std.specs.BTreeMap.{is_at, insert_entry}
use Rattle.std.specs.Cmp.{nat_cmp_total}
use Rattle.std.specs.FinMap.Entries.{put}
use Rattle.std.specs.Map.{remove_entry}
use Rattle.std.specs.Ordering.{nat_cmp, eq_by_cmp}
use Rattle.std.proofs.lemmas.Bool.Decides.{nat_tests}
use Rattle.dc_plain.specs.Conditions.{IsFree, HasPath}
use Rattle.dc_plain.specs.Effects.{with_new}
use Rattle.dc_names.specs.declared.limits.TheConstants.{NUMBER_LIMIT}
use Rattle.dc_plain.specs.Trees.{Tree, Spot, spot_cmp, holder_of}
use Rattle.dc_plain.specs.Trees.Inode.{Directory}
use Rattle.dc_store.specs.Laws.{TreeLaws}
use Rattle.dc_store.specs.Maps.{inode_shown, node_shown, node_at, parent_in, CanKeep}
use Rattle.dc_plain.specs.Spots.{spot_at}
use Rattle.dc_store.specs.declared.node.Node as rust_node
use Rattle.dc_store.specs.declared.node.Node.TheVariants as kinds
use Rattle.dc_store.proofs.Maps.{insert_shown, all_of_each, remove_inserted, lookup_inserted}
use Rattle.dc_store.proofs.Nodes.{inode_shown_at}
use Rattle.dc_store.proofs.Stores.{Shows, sound_as}
use Rattle.dc_store.proofs.Decides.{same_number, itself}

pub differs : (n : ℕ) {next : ℕ} → n ≡ next → eq_by_cmp nat_cmp n next ≡ false → ⊥
differs n {next} same other = let e = itself n in subst (λ k. eq_by_cmp nat_cmp n k ≡ false → ⊥) same (λ f. cc) other

absent_by : (o : Option rust_node.Node) → option_map node_shown o ≡ None → o ≡ None
absent_by None e = refl
absent_by (Some node) e = cc

path_by : (d : ℕ) (v : rust_node.Node) → CanKeep d v → HasPath (node_shown v)
path_by d (kinds.Dir up) can = tt
path_by d kinds.File can = tt
path_by d (kinds.Link text) can = can

module _ (laws : TreeLaws) {entries : List (Spot × ℕ)} {nodes : List (ℕ × rust_node.Node)} {next : ℕ} {t : Tree} (now : Shows entries nodes next t) where
  next_is : next ≡ t.next
  next_is = ap (λ (u : Tree). u.next) now.shows

  -- the node goes again
  pub taken_back : {same : List (Spot × ℕ)} (node : rust_node.Node) {new back : List (ℕ × rust_node.Node)} → same ≡ entries → new ≡ insert_entry nat_cmp nodes next node → back ≡ remove_entry (is_at (nat_cmp next)) new
      → Shows same back next t
  taken_back node {back = back} still is gone =
      let sound = sound_as now in
      let absent = absent_by (node_at nodes next) (inode_shown_at entries nodes next next ∙ laws.next _ sound.well) in
      let before = gone ∙ ap (remove_entry (is_at (nat_cmp next))) is ∙ remove_inserted nat_cmp_total next node nodes absent in
      subst (λ es. Shows es back next t) (sym still) (subst (λ ns. Shows entries ns next t) (sym before) now)

  module _ (d : ℕ) (name : List ℕ) (node : rust_node.Node) (free : IsFree t d name) (room : t.next < NUMBER_LIMIT) (can : CanKeep d node) where
    abbrev made : Tree
    made = with_new t d name (node_shown node)

    parents_made : (n up : ℕ) → cond (eq_by_cmp nat_cmp n t.next) (Some node) (node_at nodes n) ≡ Some (kinds.Dir up) → parent_in made n ≡ Some up
    parents_made n up = by_number (eq_by_cmp nat_cmp n t.next) refl
      where
        -- the new directory's parent is where its entry stands
        of_new : (v : rust_node.Node) → CanKeep d v → v ≡ kinds.Dir up → up ≡ d
        of_new v can' is = subst (λ w. CanKeep d w) is can'

        by_number : (b : Bool) → eq_by_cmp nat_cmp n t.next ≡ b → cond b (Some node) (node_at nodes n) ≡ Some (kinds.Dir up) → parent_in (with_new t d name (node_shown node)) n ≡ Some up
        by_number true same found =
            let facts = laws.new t d name (node_shown node) now.well free in
            let here : n ≡ t.next = same_number n t.next same in
            let well = now.well in
            let rooted = well.inodes 1 Directory well.root_is in
            let above : 1 < t.next = rooted.made in
            let apart : (t.next == 1) ≡ false = grind (arith, nat_tests) in
            let is : node ≡ kinds.Dir up = cc in
            ap (parent_in (with_new t d name (node_shown node))) here
            ∙ ap (λ b. cond b (Some 1) (holder_of (with_new t d name (node_shown node)) t.next)) apart
            ∙ facts.held ∙ ap (λ k. Some k) (sym (of_new node can is))
        by_number false other found =
            let facts = laws.new t d name (node_shown node) now.well free in
            ap (cond (n == 1) (Some 1)) (facts.still_held n (λ same. differs n same other)) ∙ now.parents n up found

    pub made_new : {more : List (Spot × ℕ)} {others : List (ℕ × rust_node.Node)} → more ≡ put spot_cmp (spot_at d name) next entries → others ≡ insert_entry nat_cmp nodes next node
        → Shows more others (next + 1) (with_new t d name (node_shown node))
    made_new {more = more} {others = others} entered kept = record {
      shows = (λ i. record {
        entries = entered i;
        inodes = (ap (map inode_shown) kept ∙ insert_shown nat_cmp (λ k. k) node_shown nat_cmp next node nodes (all_of_each _ (λ e. refl) nodes)) i;
        next = next + 1;
      })
          ∙ ap (λ (u : Tree). with_new u d name (node_shown node)) now.shows;
      well = laws.new_keeps t d name (node_shown node) now.well free (record { low = room; path = path_by d node can });
      parents = λ n up e.
          parents_made n up (ap (λ m. cond (eq_by_cmp nat_cmp n m) (Some node) (node_at nodes n)) (sym next_is) ∙ sym (ap (λ ns. node_at ns n) kept ∙ lookup_inserted nat_cmp_total n next node nodes) ∙ e);
    }
