-- The counts that inodes keep are how many entries lead to them.
use Rattle.std.proofs.Common.{◌≡◌, ℕ, ◌+◌, ◌<◌, ◌==◌, List, Bool, true, false, cond, if◌then◌else◌, Option, Some, None, option_map, unwrap_or, IfSome, T, refl, ap, sym, ◌∙◌, arith}
use Rattle.std.proofs.lemmas.Bool.Decides.{nat_tests}
use Rattle.std.specs.BTreeMap.{is_at}
use Rattle.std.specs.FinMap.Entries.{is_sorted}
use Rattle.std.specs.Map.{remove_entry}
use Rattle.std.specs.Ordering.{nat_cmp, eq_by_cmp}
use Rattle.dc_plain.specs.Trees.{Spot, how_many}
use Rattle.dc_store.specs.Inodes.{inode_at, changed, one_up, one_down, count_kept, inodes_after, without_inode, nodes_of}
use Rattle.dc_store.specs.Maps.{node_at, nodes_after}
use Rattle.dc_store.specs.declared.inode.Inode.{Inode}
use Rattle.dc_store.specs.declared.node.Node as rust_node
use Rattle.dc_store.proofs.Changed.{found_changed, sorted_changed}
use Rattle.dc_store.proofs.NodesKept.{node_found, nodes_kept, nodes_less}
use Rattle.dc_store.proofs.Slots.{found_without}
use Rattle.dc_store.proofs.Decides.{itself}

-- one for the number that lost an entry
abbrev pub one : Option ℕ → ℕ → ℕ
one None q = 0
one (Some n) q = cond (n == q) 1 0

-- an inode has the count of its entries, and one more if it has just lost one
abbrev pub IsCounted : Option ℕ → List (ℕ × Inode) → List (Spot × ℕ) → Type 0
IsCounted lost inodes entries = (q : ℕ) (inode : Inode) → inode_at inodes q ≡ Some inode → inode.count ≡ how_many (λ (e : Spot × ℕ). e.1 == q) entries + one lost q

-- the inode that was changed, if it is that one
was : (f : Inode → Inode) (b : Bool) (o : Option Inode) (now : Inode) → cond b (option_map f o) o ≡ Some now → (old : Inode) × (o ≡ Some old) × (now ≡ cond b (f old) old)
was f true None now e = absurd cc
was f true (Some old) now e = (old, refl, cc)
was f false None now e = absurd cc
was f false (Some old) now e = (old, refl, cc)

pub own_one : (n q : ℕ) → eq_by_cmp nat_cmp q n ≡ true → ◌≡◌ {A = ℕ} (cond (n == q) 1 0) 1
own_one n q same = let is : (n == q) ≡ true = grind (arith, nat_tests) in ap (λ b. cond {A = ℕ} b 1 0) is

pub other_one : (n q : ℕ) → eq_by_cmp nat_cmp q n ≡ false → ◌≡◌ {A = ℕ} (cond (n == q) 1 0) 0
other_one n q other = let is : (n == q) ≡ false = grind (arith, nat_tests) in ap (λ b. cond {A = ℕ} b 1 0) is

module _ (lost : Option ℕ) (inodes : List (ℕ × Inode)) (entries : List (Spot × ℕ)) (counted : IsCounted lost inodes entries) (n : ℕ) where
  pub counted_changed : (f : Inode → Inode) → ((inode : Inode) → (f inode).count ≡ inode.count) → IsCounted lost (changed n f inodes) entries
  counted_changed f same q now e =
      let (old, there, is) = was f (eq_by_cmp nat_cmp q n) (inode_at inodes q) now (sym (found_changed n f inodes q) ∙ e) in
      ap (λ (i : Inode). i.count) is ∙ either (eq_by_cmp nat_cmp q n) old ∙ counted q old there
    where
      either : (b : Bool) (old : Inode) → (cond b (f old) old).count ≡ old.count
      either true old = same old
      either false old = refl

module _ (inodes : List (ℕ × Inode)) (sorted : T (is_sorted nat_cmp inodes)) (entries : List (Spot × ℕ)) (n : ℕ) where
  -- an entry more
  pub counted_up : (more : List (Spot × ℕ)) → ((q : ℕ) → how_many (λ (e : Spot × ℕ). e.1 == q) more ≡ how_many (λ (e : Spot × ℕ). e.1 == q) entries + cond (n == q) 1 0) → IsCounted None inodes entries → IsCounted None (changed n one_up inodes) more
  counted_up more longer counted q now e =
      let (old, there, is) = was one_up (eq_by_cmp nat_cmp q n) (inode_at inodes q) now (sym (found_changed n one_up inodes q) ∙ e) in
      let had = counted q old there in
      let has = longer q in
      ap (λ (i : Inode). i.count) is ∙ at (eq_by_cmp nat_cmp q n) refl old had has
    where
      at : (b : Bool) → eq_by_cmp nat_cmp q n ≡ b → (old : Inode) → old.count ≡ how_many (λ (e : Spot × ℕ). e.1 == q) entries + 0 → how_many (λ (e : Spot × ℕ). e.1 == q) more ≡ how_many (λ (e : Spot × ℕ). e.1 == q) entries + cond (n == q) 1 0
          → (cond b (one_up old) old).count ≡ how_many (λ (e : Spot × ℕ). e.1 == q) more + 0
      at true same old had has = omega (arith, own_one n q same)
      at false other old had has = omega (arith, other_one n q other)

  module _ (counted : IsCounted (Some n) inodes entries) where
    -- what lost an entry had a name
    pub had_name : IfSome (inode_at inodes n) (λ inode. 0 < inode.count)
    had_name = by_inode (inode_at inodes n) refl
      where
        by_inode : (o : Option Inode) → inode_at inodes n ≡ o → IfSome o (λ inode. 0 < inode.count)
        by_inode None e = tt
        by_inode (Some old) e =
            let had : old.count ≡ how_many (λ (x : Spot × ℕ). x.1 == n) entries + cond (n == n) 1 0 = counted n old e in omega (arith, own_one n n (itself n))

    counted_less : IsCounted None (changed n one_down inodes) entries
    counted_less q now e =
        let (old, there, is) = was one_down (eq_by_cmp nat_cmp q n) (inode_at inodes q) now (sym (found_changed n one_down inodes q) ∙ e) in
        ap (λ (i : Inode). i.count) is ∙ at (eq_by_cmp nat_cmp q n) refl old (counted q old there)
      where
        at : (b : Bool) → eq_by_cmp nat_cmp q n ≡ b → (old : Inode) → old.count ≡ how_many (λ (e : Spot × ℕ). e.1 == q) entries + cond (n == q) 1 0 → (cond b (one_down old) old).count ≡ how_many (λ (e : Spot × ℕ). e.1 == q) entries + 0
        at true same old had = omega (arith, own_one n q same)
        at false other old had = omega (arith, other_one n q other)

    module _ (i : Inode) (there : inode_at inodes n ≡ Some i) where
      less_there : inode_at (changed n one_down inodes) n ≡ Some (one_down i)
      less_there = found_changed n one_down inodes n ∙ ap (λ b. cond b (option_map one_down (inode_at inodes n)) (inode_at inodes n)) (itself n) ∙ ap (option_map one_down) there

      count_left : count_kept (changed n one_down inodes) n ≡ how_many (λ (e : Spot × ℕ). e.1 == n) entries
      count_left =
          let left = counted_less n (one_down i) less_there in
          ap (λ o. unwrap_or (option_map (λ (j : Inode). j.count) o) 0) less_there ∙ (omega arith)

      still : (b : Bool) → IsCounted None (if b then without_inode n (changed n one_down inodes) else changed n one_down inodes) entries
      still true q now e = counted_less q now (there_before (eq_by_cmp nat_cmp q n) (inode_at (changed n one_down inodes) q) (sym (found_without n (changed n one_down inodes) q) ∙ e))
        where
          there_before : (b : Bool) (o : Option Inode) → cond b None o ≡ Some now → o ≡ Some now
          there_before true o e' = cc
          there_before false o e' = e'
      still false q now e = counted_less q now e

      same_nodes : nodes_of (changed n one_down inodes) ≡ nodes_of inodes
      same_nodes = nodes_kept inodes sorted n one_down (λ inode. refl)

      nodes_either : (b : Bool) → nodes_of (if b then without_inode n (changed n one_down inodes) else changed n one_down inodes) ≡ (if b then remove_entry (is_at (nat_cmp n)) (nodes_of inodes) else nodes_of inodes)
      nodes_either true = nodes_less (changed n one_down inodes) (sorted_changed n one_down inodes sorted) n ∙ ap (remove_entry (is_at (nat_cmp n))) same_nodes
      nodes_either false = same_nodes

      -- its node goes if no entry leads to it
      pub lost_nodes : nodes_of (inodes_after (Some n) inodes) ≡ nodes_after (Some n) entries (nodes_of inodes)
      lost_nodes = nodes_either (count_kept (changed n one_down inodes) n == 0) ∙ ap (λ (k : ℕ). if k == 0 then remove_entry (is_at (nat_cmp n)) (nodes_of inodes) else nodes_of inodes) count_left

      pub lost_counted : IsCounted None (inodes_after (Some n) inodes) entries
      lost_counted = still (count_kept (changed n one_down inodes) n == 0)

      pub lost_kept : (q : ℕ) (node : rust_node.Node) → node_at (nodes_of (inodes_after (Some n) inodes)) q ≡ Some node → node_at (nodes_of inodes) q ≡ Some node
      lost_kept q node = by_test (count_kept (changed n one_down inodes) n == 0)
        where
          there_before : (b : Bool) (o : Option Inode) → option_map (λ (j : Inode). j.node) (cond b None o) ≡ Some node → option_map (λ (j : Inode). j.node) o ≡ Some node
          there_before true o e = cc
          there_before false o e = e

          by_test : (b : Bool) → node_at (nodes_of (if b then without_inode n (changed n one_down inodes) else changed n one_down inodes)) q ≡ Some node → node_at (nodes_of inodes) q ≡ Some node
          by_test true e =
              ap (λ nodes. node_at nodes q) (sym same_nodes) ∙ node_found (changed n one_down inodes) q
              ∙ there_before (eq_by_cmp nat_cmp q n) (inode_at (changed n one_down inodes) q) (sym (node_found (without_inode n (changed n one_down inodes)) q ∙ ap (option_map (λ (j : Inode). j.node)) (found_without n (changed n one_down inodes) q)) ∙ e)
          by_test false e = ap (λ nodes. node_at nodes q) (sym same_nodes) ∙ e
