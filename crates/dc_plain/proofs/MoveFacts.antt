-- What a move makes of entries, inodes, holders and counts.
use Rattle.std.proofs.Common.{◌≡◌, ◌≢◌, ℕ, ◌+◌, ◌==◌, ◌&&◌, not, List, false, cond, Option, Some, None, IfSome, IsTrue, refl, ap, sym, ◌∙◌, arith, length, option_map, option_and_then, subst}
use Rattle.std.specs.Ordering.{eq_by_cmp}
use Rattle.std.specs.FinMap.Entries.{find-put}
use Rattle.dc_plain.specs.Conditions.{CanStandAt, CanMove, is_full_directory}
use Rattle.dc_plain.specs.EffectFacts.{LosesName, Clears, MovesName}
use Rattle.dc_plain.specs.EffectLaws.{MoveKeepsWellFormed, MoveChanges}
use Rattle.dc_plain.specs.Effects.{cleared, tree_moved, without_entry, without_there}
use Rattle.dc_plain.specs.IsWellFormed.{IsWellFormed}
use Rattle.dc_plain.specs.Operations.{is_beneath}
use Rattle.dc_plain.specs.Resolution.{is_directory}
use Rattle.dc_plain.specs.Spots.{spot_at}
use Rattle.dc_plain.specs.Trees.{Tree, Spot, Inode, spot_cmp, how_many, entry_number, inode_of, target_at, kind_of, names_of, is_directory_inode, is_live_directory, without_spot}
use Rattle.dc_plain.proofs.EffectFacts.{apart_by_cmp, empty-unentered, lost-changes}
use Rattle.dc_plain.proofs.Found.{Leads, kind_is}
use Rattle.dc_plain.proofs.FoundMoves.{ready_alone, ready_after}
use Rattle.dc_plain.proofs.Holders.{same_test}
use Rattle.dc_plain.proofs.Made.{spots_total, to_test, some_in}
use Rattle.dc_plain.proofs.Moved.{IsReady, moved-IsWellFormed, names_moved, holder_else, holder_moved, single}
use Rattle.dc_plain.proofs.SameFacts.{tied}
use Rattle.dc_plain.proofs.Takes.{count-take, lookup-take}
use Rattle.dc_plain.proofs.Keys.{target_lives}

-- what stands at a name isn't the root
pub entry_not_root : (t : Tree) (spot : Spot) (n : ℕ) → IsWellFormed t → entry_number t spot ≡ Some n → n ≢ 1
entry_not_root t spot n well leads same =
    let counted : how_many (λ (x : Spot × ℕ). x.1 == n) (without_spot spot t.entries) + cond (n == n) 1 0 ≡ names_of t n = count-take spot_cmp spots_total spot (λ (v : ℕ). v == n) n t.entries (to_test _ well.entries_in_order) leads in
    let one : how_many (λ (x : Spot × ℕ). x.1 == n) (without_spot spot t.entries) + 1 ≡ names_of t n = sym (ap (λ b. how_many (λ (x : Spot × ℕ). x.1 == n) (without_spot spot t.entries) + cond b 1 0) (same_test n)) ∙ counted in
    let none : names_of t n ≡ 0 = ap (names_of t) same ∙ well.no_entry_leads_to_root in
    absurd (omega arith)

module _ (t : Tree) (d : ℕ) (name : List ℕ) where
  cleared_alone : entry_number t (spot_at d name) ≡ None → cleared t d name ≡ t
  cleared_alone free = ap (λ o. without_there t d name (option_and_then (target_at t) o)) free

  cleared_over : (m : ℕ) → IsWellFormed t → entry_number t (spot_at d name) ≡ Some m → cleared t d name ≡ without_entry t d name m
  cleared_over m well there =
      let i = some_in (inode_of t m) (target_lives t well (spot_at d name) m there) in
      ap (λ o. without_there t d name (option_and_then (target_at t) o)) there ∙ ap (λ o. without_there t d name (option_map (λ inode. (m, kind_of inode)) o)) i.1

  clears : IsWellFormed t → IfSome (entry_number t (spot_at d name)) (λ m. IsTrue (not (is_full_directory t m))) → Clears t d name (cleared t d name)
  clears well gives_way =
      let lost : (m : ℕ) → entry_number t (spot_at d name) ≡ Some m → LosesName t d name m (cleared t d name) = λ m there.
      subst (LosesName t d name m) (sym (cleared_over m well there))
      (lost-changes t d name m well (record { leads = there; empty = subst (λ o. IfSome o (λ m. IsTrue (not (is_full_directory t m)))) there gives_way })) in record {
        free = by_there (entry_number t (spot_at d name)) refl lost;
        alone = cleared_alone;
        over = lost;
      }
    where
      by_there : (o : Option ℕ) → entry_number t (spot_at d name) ≡ o → ((m : ℕ) → entry_number t (spot_at d name) ≡ Some m → LosesName t d name m (cleared t d name)) → entry_number (cleared t d name) (spot_at d name) ≡ None
      by_there None free lost = ap (λ (u : Tree). entry_number u (spot_at d name)) (cleared_alone free) ∙ free
      by_there (Some m) there lost = let facts = lost m there in facts.gone

  -- another name leads where it led
  cleared_elsewhere : Clears t d name (cleared t d name) → (spot : Spot) → spot ≢ spot_at d name → entry_number (cleared t d name) spot ≡ entry_number t spot
  cleared_elsewhere facts spot other = by_there (entry_number t (spot_at d name)) refl
    where
      by_there : (o : Option ℕ) → entry_number t (spot_at d name) ≡ o → entry_number (cleared t d name) spot ≡ entry_number t spot
      by_there None free = ap (λ (u : Tree). entry_number u spot) (cleared_alone free)
      by_there (Some m) there = let lost = facts.over m there in lost.elsewhere spot other

  -- another inode is as it was
  cleared_kept : Clears t d name (cleared t d name) → (n : ℕ) → entry_number t (spot_at d name) ≢ Some n → inode_of (cleared t d name) n ≡ inode_of t n
  cleared_kept facts n other = by_there (entry_number t (spot_at d name)) refl
    where
      by_there : (o : Option ℕ) → entry_number t (spot_at d name) ≡ o → inode_of (cleared t d name) n ≡ inode_of t n
      by_there None free = ap (λ (u : Tree). inode_of u n) (cleared_alone free)
      by_there (Some m) there = let lost = facts.over m there in lost.kept n (λ same. other (there ∙ ap (λ k. Some k) (sym same)))

module _ (t : Tree) (from : ℕ) (old : List ℕ) (to : ℕ) (new : List ℕ) (n : ℕ) (well : IsWellFormed t) (can : CanMove t from old to new n) where
  stands : CanStandAt t to new n
  stands = can.stands

  inode : (i : Inode) × (inode_of t n ≡ Some i)
  inode = some_in (inode_of t n) (target_lives t well (spot_at from old) n can.leads)

  source : Leads t from old (n, kind_of inode.0)
  source = record { target = can.leads; inode = inode.0; lives = inode.1; kind = kind_is n inode.0 }

  not_above : (is_directory (n, kind_of inode.0) && is_beneath (length t.inodes) t to n) ≡ false
  not_above = ap (λ b. b && is_beneath (length t.inodes) t to n) (kind_is n inode.0 ∙ ap is_directory_inode (sym inode.1)) ∙ stands.apart

  is_ready : IsReady (cleared t to new) from old to new n
  is_ready = by_there (entry_number t (spot_at to new)) refl
    where
      by_there : (o : Option ℕ) → entry_number t (spot_at to new) ≡ o → IsReady (cleared t to new) from old to new n
      by_there None free = subst (λ u. IsReady u from old to new n) (sym (cleared_alone t to new free))
          (ready_alone t from old to new (n, kind_of inode.0) well source stands.directory can.named not_above (ap (option_and_then (target_at t)) free))
      by_there (Some m) there =
          let empty = subst (λ o. IfSome o (λ k. IsTrue (not (is_full_directory t k)))) there stands.gives_way in
          let i = some_in (inode_of t m) (target_lives t well (spot_at to new) m there) in
          subst (λ u. IsReady u from old to new n) (sym (cleared_over t to new m well there))
          (ready_after t from old to new (n, kind_of inode.0) well source stands.directory can.named not_above (m, kind_of i.0) there (empty-unentered t m well empty)
          (λ same. stands.other (there ∙ ap (λ k. Some k) (sym same))))

  move-well : IsWellFormed (tree_moved t from old to new n)
  move-well = moved-IsWellFormed (cleared t to new) from old to new n is_ready

  -- the two names are two
  spots_differ : spot_at from old ≢ spot_at to new
  spots_differ same = stands.other (ap (entry_number t) (sym same) ∙ can.leads)

  found : (spot : Spot) → entry_number (tree_moved t from old to new n) spot
      ≡ cond (eq_by_cmp spot_cmp spot (spot_at to new)) (Some n) (cond (not (eq_by_cmp spot_cmp (spot_at from old) spot)) (entry_number (cleared t to new) spot) None)
  found spot =
      find-put spot_cmp spots_total spot (spot_at to new) n (without_spot (spot_at from old) (cleared t to new).entries)
      ∙ ap (λ o. cond (eq_by_cmp spot_cmp spot (spot_at to new)) (Some n) o) (lookup-take spot_cmp spots_total (spot_at from old) spot (cleared t to new).entries)

  move_changes : MovesName t from old to new n (tree_moved t from old to new n)
  move_changes =
      let facts = clears t to new well stands.gives_way in record {
        gone = found (spot_at from old) ∙ rw (apart_by_cmp (spot_at from old) (spot_at to new) spots_differ, tied from old) refl;
        here = found (spot_at to new) ∙ rw (tied to new) refl;
        elsewhere = λ spot other_old other_new.
            found spot ∙ rw (apart_by_cmp spot (spot_at to new) other_new, apart_by_cmp (spot_at from old) spot (λ same. other_old (sym same))) (cleared_elsewhere t to new facts spot other_new);
        clears = facts;
        kept = λ q. refl;
        held = λ live.
            let still : IsTrue (is_live_directory (cleared t to new) n) = ap is_directory_inode (cleared_kept t to new facts n stands.other) ∙ live in
            holder_moved (cleared t to new) from old to new n is_ready
            (single (cleared t to new) from old to new n is_ready n still (entry_not_root t (spot_at from old) n well can.leads));
        still_held = λ q other. holder_else (cleared t to new) from old to new n is_ready q (λ same. other (sym same));
        still_named = names_moved (cleared t to new) from old to new n is_ready;
      }

pub moved-keeps : MoveKeepsWellFormed
moved-keeps t from old to new n well can = move-well t from old to new n well can

pub moved-changes : MoveChanges
moved-changes t from old to new n well can = move_changes t from old to new n well can
