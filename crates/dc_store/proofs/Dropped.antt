-- A store without an entry, and without the node if that was its last name.
use Rattle.std.proofs.Common.{◌≡◌, ◌≢◌, ℕ, ◌==◌, not, List, Bool, true, false, cond, map, Option, Some, None, IfSome, IsSomeAnd, IsTrue, refl, ap, sym, ◌∙◌, subst, arith, if◌then◌else◌}
use Rattle.std.specs.BTreeMap.{is_at}
use Rattle.std.specs.Cmp.{nat_cmp_total, unsigned_tied}
use Rattle.std.specs.FinMap.Entries.{find, where_key, is_sorted}
use Rattle.std.specs.Map.{remove_entry}
use Rattle.std.specs.Ordering.{nat_cmp}
use Rattle.dc_plain.specs.Conditions.{CanLose}
use Rattle.dc_plain.specs.Effects.{without_entry}
use Rattle.dc_plain.specs.Trees.{Tree, Spot, Inode, spot_cmp, how_many, inode_of, entry_number, names_of, without_spot, without_number}
use Rattle.dc_plain.specs.Trees.Inode.{Directory}
use Rattle.dc_store.specs.Dropped.{CanDrop}
use Rattle.dc_store.specs.Laws.{TreeLaws}
use Rattle.dc_store.specs.Maps.{inode_shown, node_shown, node_at, nodes_after, tree_in}
use Rattle.dc_plain.specs.Spots.{spot_at}
use Rattle.dc_store.specs.declared.node.Node as rust_node
use Rattle.dc_store.specs.declared.node.Node.TheVariants as kinds
use Rattle.dc_store.proofs.Maps.{remove_shown, all_of_each}
use Rattle.dc_store.proofs.Nodes.{shown_as}
use Rattle.dc_store.proofs.Stores.{Shows, lives_as}
use Rattle.dc_store.proofs.Decides.{to_test}

nodes_without : (n : ℕ) (nodes : List (ℕ × rust_node.Node)) → IsTrue (is_sorted nat_cmp (map inode_shown nodes)) → map inode_shown (remove_entry (is_at (nat_cmp n)) nodes) ≡ without_number n (map inode_shown nodes)
nodes_without n nodes in_order =
    remove_shown nat_cmp nat_cmp_total (λ k. k) node_shown (nat_cmp n) n nodes (all_of_each _ (λ e. refl) nodes) (to_test _ in_order)
    ∙ (λ i. where_key nat_cmp (λ other. not (unsigned_tied n other i)) (map inode_shown nodes))

-- the entries that are left when one goes
pub entries_left : (t : Tree) (d : ℕ) (name : List ℕ) (n : ℕ) → (without_entry t d name n).entries ≡ without_spot (spot_at d name) t.entries
entries_left t d name n = by_last (names_of (record t { entries = without_spot (spot_at d name) t.entries }) n == 0)
  where
    by_last : (b : Bool) → (if b then record t { entries = without_spot (spot_at d name) t.entries; inodes = without_number n t.inodes } else record t { entries = without_spot (spot_at d name) t.entries }).entries
        ≡ without_spot (spot_at d name) t.entries
    by_last true = refl
    by_last false = refl

module _ (laws : TreeLaws) {entries : List (Spot × ℕ)} {nodes : List (ℕ × rust_node.Node)} {next : ℕ} {t : Tree} (now : Shows entries nodes next t) (d : ℕ) (name : List ℕ) where
  shows_left : (n : ℕ) → tree_in (without_spot (spot_at d name) entries) (nodes_after (Some n) (without_spot (spot_at d name) entries) nodes) next ≡ without_entry (tree_in entries nodes next) d name n
  shows_left n = by_last (how_many (λ e. e.1 == n) (without_spot (spot_at d name) entries) == 0)
    where
      left_with : List (ℕ × Inode) → Tree
      left_with inodes = record { entries = without_spot (spot_at d name) entries; inodes = inodes; next = next }

      by_last : (b : Bool) → tree_in (without_spot (spot_at d name) entries) (if b then remove_entry (is_at (nat_cmp n)) nodes else nodes) next
          ≡ (if b then left_with (without_number n (map inode_shown nodes)) else left_with (map inode_shown nodes))
      by_last true =
          let well = now.well in
          let in_order = subst (λ (u : Tree). IsTrue (is_sorted nat_cmp u.inodes)) (sym now.shows) well.inodes_in_order in
          ap left_with (nodes_without n nodes in_order)
      by_last false = refl

  module _ (n : ℕ) (can : CanLose t d name n) where
    -- a directory that is left is another
    other_left : (q : ℕ) → inode_of t q ≡ Some Directory → inode_of (without_entry t d name n) q ≡ Some Directory → q ≢ n
    other_left q before after same =
        let well = now.well in
        let facts = laws.lost t d name n well can in
        let leads = laws.names t (spot_at d name) n well can.leads in
        let lived = well.inodes q Directory before in
        let one : names_of t n ≡ 1 = ap (names_of t) (sym same) ∙ lived.reached.0 (λ root. leads.not_root (sym same ∙ root)) in
        let less = facts.named in
        let gone : inode_of (without_entry t d name n) q ≡ None = ap (inode_of (without_entry t d name n)) same ∙ facts.last (omega arith) in
        cc

    pub dropped : (fewer : List (ℕ × rust_node.Node)) → fewer ≡ nodes_after (Some n) (without_spot (spot_at d name) entries) nodes
        → ((q : ℕ) (node : rust_node.Node) → node_at fewer q ≡ Some node → node_at nodes q ≡ Some node) → Shows (without_spot (spot_at d name) entries) fewer next (without_entry t d name n)
    dropped fewer cut kept =
        let facts = laws.lost t d name n now.well can in
        let shows = ap (λ ns. tree_in (without_spot (spot_at d name) entries) ns next) cut ∙ shows_left n ∙ ap (λ (u : Tree). without_entry u d name n) now.shows in
        record {
          shows = shows;
          well = laws.lost_keeps t d name n now.well can;
          parents = λ q up e.
              let before = kept q (kinds.Dir up) e in
              let after : inode_of (without_entry t d name n) q ≡ Some Directory = ap (λ (u : Tree). inode_of u q) (sym shows) ∙ shown_as (without_spot (spot_at d name) entries) fewer next q (kinds.Dir up) e in
              ap (cond (q == 1) (Some 1)) (facts.still_held q (other_left q (lives_as now q (kinds.Dir up) before) after)) ∙ now.parents q up before;
        }

pub is_some_at : {X : Type 0} (o : Option X) (P : X → Type 0) → IsSomeAnd o P → (x : X) × (o ≡ Some x) × P x
is_some_at None P h = absurd h
is_some_at (Some x) P h = (x, refl, h)

pub if_some_at : {X : Type 0} {o : Option X} {x : X} (P : X → Type 0) → o ≡ Some x → P x → IfSome o P
if_some_at P e h = subst (λ o. IfSome o P) (sym e) h

-- with what the steps of the code answered
pub after_drop : TreeLaws → {entries less : List (Spot × ℕ)} {nodes fewer : List (ℕ × rust_node.Node)} {next : ℕ} {t : Tree} {lost : Option ℕ} (d : ℕ) (name : List ℕ) → Shows entries nodes next t → CanDrop t (spot_at d name)
    → less ≡ without_spot (spot_at d name) entries → lost ≡ find spot_cmp (spot_at d name) entries → fewer ≡ nodes_after lost less nodes
    → ((q : ℕ) (node : rust_node.Node) → node_at fewer q ≡ Some node → node_at nodes q ≡ Some node) → (n : ℕ) × (entry_number t (spot_at d name) ≡ Some n) × Shows less fewer next (without_entry t d name n)
after_drop laws {nodes = nodes} {fewer = fewer} {next = next} {t = t} d name now can taken was cut kept =
    let (n, leads, may) = is_some_at (entry_number t (spot_at d name)) _ can in
    let lost = was ∙ ap (λ (u : Tree). entry_number u (spot_at d name)) now.shows ∙ leads in (
      n,
      leads,
      subst (λ es. Shows es fewer next (without_entry t d name n)) (sym taken) (dropped laws now d name n (record { leads = leads; empty = may }) fewer (cut ∙ (λ i. nodes_after (lost i) (taken i) nodes)) kept),
    )
