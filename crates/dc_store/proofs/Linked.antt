-- A store with an entry for what lives.
use Rattle.std.proofs.Common.{◌≡◌, ◌≢◌, ℕ, ◌==◌, List, false, cond, Some, true, ap, sym, ◌∙◌, subst}
use Rattle.std.specs.FinMap.Entries.{put}
use Rattle.dc_plain.specs.Conditions.{IsFree, CanBeNamed}
use Rattle.dc_plain.specs.Effects.{with_entry_for}
use Rattle.dc_plain.specs.Trees.{Tree, Spot, spot_cmp, inode_of, is_directory_inode, is_live_directory}
use Rattle.dc_plain.specs.Trees.Inode.{Directory}
use Rattle.dc_plain.specs.Spots.{spot_at}
use Rattle.dc_store.specs.Laws.{TreeLaws}
use Rattle.dc_store.specs.declared.node.Node as rust_node
use Rattle.dc_store.specs.declared.node.Node.TheVariants as kinds
use Rattle.dc_store.proofs.Stores.{Shows, lives_as}

-- a directory is another inode
apart : {t : Tree} {n : ℕ} → CanBeNamed t n → (q : ℕ) → inode_of t q ≡ Some Directory → q ≢ n
apart {t = t} {n = n} can q lives same =
    let is : is_live_directory t n ≡ true = ap is_directory_inode (ap (inode_of t) (sym same) ∙ lives) in
    let is_not : is_live_directory t n ≡ false = can.no_directory in
    cc

pub linked : TreeLaws → {entries more : List (Spot × ℕ)} {nodes : List (ℕ × rust_node.Node)} {next : ℕ} {t : Tree} (d : ℕ) (name : List ℕ) {n : ℕ} → Shows entries nodes next t
    → IsFree t d name → CanBeNamed t n → more ≡ put spot_cmp (spot_at d name) n entries → Shows more nodes next (with_entry_for t d name n)
linked laws {nodes = nodes} {next = next} {t = t} d name {n = n} now free can entered =
    let facts = laws.further t d name n now.well free in
    subst (λ es. Shows es nodes next (with_entry_for t d name n)) (sym entered) (record {
      shows = ap (λ (u : Tree). with_entry_for u d name n) now.shows;
      well = laws.further_keeps t d name n now.well free can;
      parents = λ q up e. ap (cond (q == 1) (Some 1)) (facts.still_held q (apart can q (lives_as now q (kinds.Dir up) e))) ∙ now.parents q up e;
    })
