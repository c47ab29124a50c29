-- A store of inodes that stands for a tree, with an entry or an inode more.
use Rattle.std.proofs.Common.{◌≡◌, ℕ, ◌+◌, ◌<◌, ◌^◌, ◌==◌, List, [], Bool, true, false, cond, Option, Some, None, is_some, option_map, IsTrue, IfSome, T, refl, ap, sym, ◌∙◌, subst, arith}
use Rattle.std.specs.Cmp.{nat_cmp_total}
use Rattle.std.specs.FinMap.Entries.{put, is_sorted, is_sorted-put, is_sorted-where_key, find-put}
use Rattle.std.specs.Ordering.{nat_cmp, eq_by_cmp}
use Rattle.dc_plain.specs.Conditions.{IsFree, CanBeNamed}
use Rattle.dc_plain.specs.Effects.{with_new, with_entry_for}
use Rattle.dc_plain.specs.EffectFacts.{MakesInode}
use Rattle.dc_plain.specs.Trees.{Tree, Spot, spot_cmp, how_many, inode_of, names_of, is_live_directory}
use Rattle.dc_store.specs.Inodes.{entries_of, nodes_of, tree_of, inode_at, changed, with_name, one_up, without_inode}
use Rattle.dc_store.specs.Laws.{TreeLaws}
use Rattle.dc_store.specs.Maps.{node_shown, CanKeep}
use Rattle.dc_store.specs.Slabs.{IsTied}
use Rattle.dc_plain.specs.Spots.{spot_at}
use Rattle.dc_store.specs.declared.inode.Inode.{Inode}
use Rattle.dc_store.specs.declared.node.Node as rust_node
use Rattle.dc_store.proofs.Changed.{sorted_changed, entries_kept, entries_new, entries_with}
use Rattle.dc_store.proofs.CountedInodes.{IsCounted, counted_changed, counted_up}
use Rattle.dc_store.proofs.Linked.{linked}
use Rattle.dc_store.proofs.Made.{differs, made_new}
use Rattle.dc_store.proofs.NameCounts.{names_further}
use Rattle.dc_store.proofs.NodesKept.{shown_at, sorted_shown, nodes_kept, nodes_put}
use Rattle.dc_store.proofs.Slots.{same_inodes, found_without}
use Rattle.dc_store.proofs.Stores.{Shows, shows_now, sound_as}
use Rattle.dc_store.proofs.Decides.{to_test, same_number, is_directory_in}

-- the inodes stand for the tree, and keep their counts
pub record Keeps (inodes : List (ℕ × Inode)) (next : ℕ) (t : Tree) : Type 0 where
  pub shows : Shows (entries_of inodes) (nodes_of inodes) next t
  pub counted : IsCounted None inodes (entries_of inodes)

module _ {inodes : List (ℕ × Inode)} {next : ℕ} {t : Tree} where
  pub keeps_now : IsTied inodes next → tree_of inodes next ≡ t → Keeps inodes next t
  keeps_now tied is = record { shows = shows_now tied.sound is; counted = λ q inode e. let had = tied.counted q inode e in omega arith }

  pub tied_as : Keeps inodes next t → IsTied inodes next
  tied_as now = record { sound = sound_as now.shows; counted = λ q inode e. let had = now.counted q inode e in omega arith }

  module _ (now : Keeps inodes next t) where
    pub in_order : T (is_sorted nat_cmp inodes)
    in_order =
        let well = now.shows.well in
        subst T (sorted_shown inodes) (to_test _ (subst (λ (u : Tree). IsTrue (is_sorted nat_cmp u.inodes)) (sym now.shows.shows) well.inodes_in_order))

    pub entries_are : entries_of inodes ≡ t.entries
    entries_are = ap (λ (u : Tree). u.entries) now.shows.shows

    pub next_is : next ≡ t.next
    next_is = ap (λ (u : Tree). u.next) now.shows.shows

    pub inode_is : (q : ℕ) → inode_of t q ≡ option_map (λ (i : Inode). node_shown i.node) (inode_at inodes q)
    inode_is q = ap (λ (u : Tree). inode_of u q) (sym now.shows.shows) ∙ shown_at q inodes

    pub lives : (q : ℕ) → IsTrue (is_some (inode_of t q)) → IsTrue (is_some (inode_at inodes q))
    lives q h = by_inode (inode_at inodes q) (ap is_some (sym (inode_is q)) ∙ h)
      where
        by_inode : (o : Option Inode) → IsTrue (is_some (option_map (λ (i : Inode). node_shown i.node) o)) → IsTrue (is_some o)
        by_inode None h' = h'
        by_inode (Some i) h' = refl

    pub lives_directory : (d : ℕ) → IsTrue (is_live_directory t d) → IsTrue (is_some (inode_at inodes d))
    lives_directory d h = lives d (ap is_some (is_directory_in (inode_of t d) h))

    module _ (laws : TreeLaws) where
      pub no_inode : inode_at inodes next ≡ None
      no_inode = by_inode (inode_at inodes next) (sym (inode_is next) ∙ ap (inode_of t) next_is ∙ laws.next t now.shows.well)
        where
          by_inode : (o : Option Inode) → option_map (λ (i : Inode). node_shown i.node) o ≡ None → o ≡ None
          by_inode None e = refl
          by_inode (Some i) e = cc

      -- the inode goes again
      pub taken_back : (inode : Inode) {added back : List (ℕ × Inode)} → added ≡ put nat_cmp next inode inodes → back ≡ without_inode next added → Keeps back next t
      taken_back inode {added = added} {back = back} put_in gone = subst (λ es. Keeps es next t) (sym (gone ∙ ap (without_inode next) put_in ∙ as_before)) now
        where
          at : (q : ℕ) (b : Bool) → eq_by_cmp nat_cmp q next ≡ b → cond b None (cond b (Some inode) (inode_at inodes q)) ≡ inode_at inodes q
          at q true same = sym (ap (inode_at inodes) (same_number q next same) ∙ no_inode)
          at q false other = refl

          as_before : without_inode next (put nat_cmp next inode inodes) ≡ inodes
          as_before = same_inodes (without_inode next (put nat_cmp next inode inodes)) inodes (is_sorted-where_key nat_cmp _ (put nat_cmp next inode inodes) (is_sorted-put nat_cmp nat_cmp_total next inode inodes in_order)) in_order (λ q.
              found_without next (put nat_cmp next inode inodes) q ∙ ap (cond (eq_by_cmp nat_cmp q next) None) (find-put nat_cmp nat_cmp_total q next inode inodes) ∙ at q (eq_by_cmp nat_cmp q next) refl)

      module _ (d : ℕ) (name : List ℕ) (free : IsFree t d name) where
        -- with an entry for what lives
        module _ (n : ℕ) (can : CanBeNamed t n) {more : List (ℕ × Inode)} (entered : more ≡ changed d (with_name name n) inodes) where
          pub room : IfSome (inode_at more n) (λ inode. inode.count < 2 ^ 63)
          room = subst (λ es. IfSome (inode_at es n) (λ inode. inode.count < 2 ^ 63)) (sym entered) (by_inode (inode_at (changed d (with_name name n) inodes) n) refl)
            where
              few : how_many (λ (e : Spot × ℕ). e.1 == n) (entries_of inodes) < 65000
              few = subst (λ es. how_many (λ (e : Spot × ℕ). e.1 == n) es < 65000) (sym entries_are) can.few

              by_inode : (o : Option Inode) → inode_at (changed d (with_name name n) inodes) n ≡ o → IfSome o (λ inode. inode.count < 2 ^ 63)
              by_inode None e = tt
              by_inode (Some inode) e =
                  let had : inode.count ≡ how_many (λ (x : Spot × ℕ). x.1 == n) (entries_of inodes) + 0 = counted_changed None inodes (entries_of inodes) now.counted d (with_name name n) (λ i. refl) n inode e in
                  omega (arith, few)

          pub linked_in : {last : List (ℕ × Inode)} → last ≡ changed n one_up more → Keeps last next (with_entry_for t d name n)
          linked_in {last = last} up = subst (λ es. Keeps es next (with_entry_for t d name n)) (sym (up ∙ ap (changed n one_up) entered)) (record {
            shows = subst (λ ns. Shows (entries_of (changed n one_up with_one)) ns next (with_entry_for t d name n)) (sym nodes_same) (linked laws d name now.shows free can entries_more);
            counted = counted_up with_one sorted_more (entries_of inodes) n (entries_of (changed n one_up with_one))
                (λ q. ap (how_many (λ (e : Spot × ℕ). e.1 == q)) (entries_more ∙ ap (put spot_cmp (spot_at d name) n) entries_are) ∙ names_further laws t now.shows.well d name n free q
                ∙ ap (λ es. how_many (λ (e : Spot × ℕ). e.1 == q) es + cond (n == q) 1 0) (sym entries_are))
                (counted_changed None inodes (entries_of inodes) now.counted d (with_name name n) (λ i. refl));
          })
            where
              with_one : List (ℕ × Inode)
              with_one = changed d (with_name name n) inodes

              sorted_more : T (is_sorted nat_cmp (changed d (with_name name n) inodes))
              sorted_more = sorted_changed d (with_name name n) inodes in_order

              entries_more : entries_of (changed n one_up (changed d (with_name name n) inodes)) ≡ put spot_cmp (spot_at d name) n (entries_of inodes)
              entries_more = entries_kept (changed d (with_name name n) inodes) sorted_more n one_up (λ i. refl) ∙ entries_with inodes in_order d name n (lives_directory d free.held)

              nodes_same : nodes_of (changed n one_up (changed d (with_name name n) inodes)) ≡ nodes_of inodes
              nodes_same = nodes_kept (changed d (with_name name n) inodes) sorted_more n one_up (λ i. refl) ∙ nodes_kept inodes in_order d (with_name name n) (λ i. refl)

        -- with a new inode and an entry for it
        module _ (node : rust_node.Node) (low : t.next < 2 ^ 63) (can : CanKeep d node) where
          abbrev new : Inode
          new = record { node = node; names = []; count = 1 }

          pub made_in : {added more : List (ℕ × Inode)} → added ≡ put nat_cmp next (record { node = node; names = []; count = 1 }) inodes → more ≡ changed d (with_name name next) added
              → Keeps more (next + 1) (with_new t d name (node_shown node))
          made_in put_in entered = subst (λ es. Keeps es (next + 1) (with_new t d name (node_shown node))) (sym (entered ∙ ap (changed d (with_name name next)) put_in)) (record {
            shows = made_new laws now.shows d name node free low can entries_more (nodes_kept (put nat_cmp next new inodes) sorted_added d (with_name name next) (λ i. refl) ∙ nodes_put next new inodes);
            counted = subst (IsCounted None (changed d (with_name name next) (put nat_cmp next new inodes))) (sym entries_more)
                (counted_changed None (put nat_cmp next new inodes) (put spot_cmp (spot_at d name) next (entries_of inodes)) counted_added d (with_name name next) (λ i. refl));
          })
            where
              sorted_added : T (is_sorted nat_cmp (put nat_cmp next new inodes))
              sorted_added = is_sorted-put nat_cmp nat_cmp_total next new inodes in_order

              there : (b : Bool) → IsTrue (is_some (cond b (Some new) (inode_at inodes d)))
              there true = refl
              there false = lives_directory d free.held

              entries_more : entries_of (changed d (with_name name next) (put nat_cmp next new inodes)) ≡ put spot_cmp (spot_at d name) next (entries_of inodes)
              entries_more =
                  entries_with (put nat_cmp next new inodes) sorted_added d name next (ap is_some (find-put nat_cmp nat_cmp_total d next new inodes) ∙ there (eq_by_cmp nat_cmp d next))
                  ∙ ap (put spot_cmp (spot_at d name) next) (entries_new inodes in_order next new no_inode refl)

              facts : MakesInode t d name (node_shown node) (with_new t d name (node_shown node))
              facts = laws.new t d name (node_shown node) now.shows.well free

              entered_in : (q : ℕ) → how_many (λ (e : Spot × ℕ). e.1 == q) (put spot_cmp (spot_at d name) next (entries_of inodes)) ≡ names_of (with_new t d name (node_shown node)) q
              entered_in q = λ i. how_many (λ (e : Spot × ℕ). e.1 == q) (put spot_cmp (spot_at d name) (next_is i) (entries_are i))

              counted_added : IsCounted None (put nat_cmp next new inodes) (put spot_cmp (spot_at d name) next (entries_of inodes))
              counted_added q inode e = at (eq_by_cmp nat_cmp q next) refl (sym (find-put nat_cmp nat_cmp_total q next new inodes) ∙ e)
                where
                  at : (b : Bool) → eq_by_cmp nat_cmp q next ≡ b → cond b (Some new) (inode_at inodes q) ≡ Some inode → inode.count ≡ how_many (λ (x : Spot × ℕ). x.1 == q) (put spot_cmp (spot_at d name) next (entries_of inodes)) + 0
                  at true same found =
                      let is : inode ≡ new = cc in
                      let one : how_many (λ (x : Spot × ℕ). x.1 == q) (put spot_cmp (spot_at d name) next (entries_of inodes)) ≡ 1 =
                      entered_in q ∙ ap (names_of (with_new t d name (node_shown node))) (same_number q next same ∙ next_is) ∙ facts.named in
                      ap (λ (i : Inode). i.count) is ∙ omega arith
                  at false other found =
                      let had = now.counted q inode found in
                      let more : how_many (λ (x : Spot × ℕ). x.1 == q) (put spot_cmp (spot_at d name) next (entries_of inodes)) ≡ how_many (λ (x : Spot × ℕ). x.1 == q) (entries_of inodes) =
                      entered_in q ∙ facts.still_named q (λ same. differs q (same ∙ sym next_is) other) ∙ ap (how_many (λ (x : Spot × ℕ). x.1 == q)) (sym entries_are) in
                      omega arith
