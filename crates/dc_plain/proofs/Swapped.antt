-- What two names that swap their inodes make of a tree.
use Rattle.std.proofs.Common.{◌≡◌, ◌≢◌, ℕ, zero, suc, ◌≤◌, ◌==◌, ◌&&◌, ◌||◌, not, List, [], ◌∷◌, Bool, true, false, cond, Some, is_some, IsTrue, refl, ap, sym, ◌∙◌, arith, length, option_map, subst}
use Rattle.std.specs.Ordering.{eq_by_cmp}
use Rattle.std.specs.FinMap.Entries.{find-put, is_sorted, is_sorted-put}
use Rattle.std.specs.FinMap.Entries.{find as lookup}
use Rattle.std.specs.List.{AllByRecursion}
use Rattle.dc_names.specs.declared.limits.TheConstants.{MOST_NAMES}
use Rattle.dc_plain.specs.Conditions.{CanSwap}
use Rattle.dc_plain.specs.EffectFacts.{SwapsNames}
use Rattle.dc_plain.specs.EffectLaws.{SwapKeepsWellFormed, SwapChanges}
use Rattle.dc_plain.specs.Effects.{with_entry_for, tree_swapped}
use Rattle.dc_plain.specs.IsWellFormed.{IsWellFormed, Stands, IsReached, comes_up}
use Rattle.dc_plain.specs.Operations.{is_beneath}
use Rattle.dc_plain.specs.Trees.{Tree, Spot, Inode, spot_cmp, entry_number, inode_of, holder_of, if_held, names_of, is_live_directory, is_directory_inode}
use Rattle.dc_plain.specs.Trees.Inode.{Directory, Regular, Symbolic}
use Rattle.dc_plain.proofs.EffectFacts.{apart_by_cmp}
use Rattle.dc_plain.proofs.Holders.{decided, decided_not, other_test, holder-live}
use Rattle.dc_plain.proofs.KeysMoved.{holder_is}
use Rattle.dc_plain.proofs.Living.{names-live}
use Rattle.dc_plain.proofs.Made.{spots_total, to_test, from_test, is_directory_in, or_right}
use Rattle.dc_plain.proofs.Moved.{held_by, neither}
use Rattle.dc_plain.proofs.MoveFacts.{entry_not_root}
use Rattle.dc_plain.proofs.Overs.{count-over, find-over, All-over, ties_back}
use Rattle.dc_plain.proofs.Puts.{All-weaker}
use Rattle.dc_plain.proofs.SameFacts.{same_spot, tied}
use Rattle.dc_plain.proofs.Ways.{not_above_itself, way_past}

-- the entry that is found stands as its list says
stands_of : (P : Spot × ℕ → Type 0) (spot : Spot) (n : ℕ) (es : List (Spot × ℕ)) → AllByRecursion P es → lookup spot_cmp spot es ≡ Some n → P (spot, n)
stands_of P spot n [] all e = absurd cc
stands_of P spot n (x ∷ xs) all e =
    elim (eq_by_cmp spot_cmp spot x.0) as (λ b. eq_by_cmp spot_cmp spot x.0 ≡ b → cond b (Some x.1) (lookup spot_cmp spot xs) ≡ Some n → P (spot, n)) [
      | true ↦ λ is here. let value : x.1 ≡ n = cc in subst (λ (s : Spot). P (s, n)) (sym (same_spot spot x.0 is)) (subst (λ (k : ℕ). P (x.0, k)) value all.0)
      | false ↦ λ is here. stands_of P spot n xs all.1 here
    ] refl e

and_false : (live beneath : Bool) → (live && beneath) ≡ false → live ≡ true → beneath ≡ false
and_false true beneath e is = e
and_false false beneath e is = cc

module _ (t : Tree) (a : Spot) (m : ℕ) (b : Spot) (n : ℕ) (well : IsWellFormed t) (can : CanSwap t a m b n) where
  -- with n at both names
  abbrev half : Tree
  half = with_entry_for t a.dir a.name n

  -- the two names are two
  names_differ : a ≢ b
  names_differ same = let both : Some m ≡ Some n = sym can.first ∙ ap (entry_number t) same ∙ can.second in let one : m ≡ n = cc in can.two one

  names_apart : eq_by_cmp spot_cmp b a ≡ false
  names_apart = apart_by_cmp b a (λ same. names_differ (sym same))

  half_sorted : IsTrue (is_sorted spot_cmp half.entries)
  half_sorted = from_test _ (is_sorted-put spot_cmp spots_total a n t.entries (to_test _ well.entries_in_order))

  half_second : entry_number half b ≡ Some n
  half_second = find-put spot_cmp spots_total b a n t.entries ∙ rw names_apart can.second

  found : (spot : Spot) → entry_number (tree_swapped t a m b n) spot ≡ cond (eq_by_cmp spot_cmp spot b) (Some m) (cond (eq_by_cmp spot_cmp spot a) (Some n) (entry_number t spot))
  found spot = find-put spot_cmp spots_total spot b m half.entries ∙ ap (cond (eq_by_cmp spot_cmp spot b) (Some m)) (find-put spot_cmp spots_total spot a n t.entries)

  first_after : entry_number (tree_swapped t a m b n) a ≡ Some n
  first_after = found a ∙ rw (ties_back b a names_apart, tied a.dir a.name) refl

  second_after : entry_number (tree_swapped t a m b n) b ≡ Some m
  second_after = found b ∙ rw (tied b.dir b.name) refl

  names_swapped : (q : ℕ) → names_of (tree_swapped t a m b n) q ≡ names_of t q
  names_swapped q =
      let one = count-over a n t.entries well.entries_in_order m can.first (λ k. k == q) in
      let two = count-over b m half.entries half_sorted n half_second (λ k. k == q) in
      omega arith

  holder_else : (q : ℕ) → m ≢ q → n ≢ q → holder_of (tree_swapped t a m b n) q ≡ holder_of t q
  holder_else q not_m not_n = ap (option_map (λ (e : Spot × ℕ). e.0.dir))
      (find-over b m half.entries half_sorted n half_second (λ k. k == q) (other_test m q not_m) (other_test n q not_n)
      ∙ find-over a n t.entries well.entries_in_order m can.first (λ k. k == q) (other_test n q not_n) (other_test m q not_m))

  single : (q : ℕ) → IsTrue (is_live_directory t q) → q ≢ 1 → names_of t q ≡ 1
  single q live other = let lives = well.inodes q Directory (is_directory_in (inode_of t q) live) in lives.reached.0 other

  first_not_root : m ≢ 1
  first_not_root = entry_not_root t a m well can.first

  second_not_root : n ≢ 1
  second_not_root = entry_not_root t b n well can.second

  held_first : IsTrue (is_live_directory t m) → holder_of (tree_swapped t a m b n) m ≡ Some b.dir
  held_first live = holder_is (tree_swapped t a m b n) b.dir b.name m second_after (names_swapped m ∙ single m live first_not_root)

  held_second : IsTrue (is_live_directory t n) → holder_of (tree_swapped t a m b n) n ≡ Some a.dir
  held_second live = holder_is (tree_swapped t a m b n) a.dir a.name n first_after (names_swapped n ∙ single n live second_not_root)

  -- each directory of the two names, and the ways up from there
  first_dir : IsTrue (is_live_directory t a.dir)
  first_dir = let there = names-live t a m well can.first in there.held

  second_dir : IsTrue (is_live_directory t b.dir)
  second_dir = let there = names-live t b n well can.second in there.held

  first_past_first : (steps : ℕ) × (is_beneath steps t a.dir m ≡ false)
  first_past_first = way_past t a.dir m well first_dir (λ live. not_above_itself t m a.dir well live first_not_root (holder_is t a.dir a.name m can.first (single m live first_not_root)))

  first_past_second : (steps : ℕ) × (is_beneath steps t a.dir n ≡ false)
  first_past_second = way_past t a.dir n well first_dir (λ live. (length t.inodes, and_false (is_live_directory t n) (is_beneath (length t.inodes) t a.dir n) can.apart_too live))

  second_past_first : (steps : ℕ) × (is_beneath steps t b.dir m ≡ false)
  second_past_first = way_past t b.dir m well second_dir (λ live. (length t.inodes, and_false (is_live_directory t m) (is_beneath (length t.inodes) t b.dir m) can.apart live))

  second_past_second : (steps : ℕ) × (is_beneath steps t b.dir n ≡ false)
  second_past_second = way_past t b.dir n well second_dir (λ live. not_above_itself t n b.dir well live second_not_root (holder_is t b.dir b.name n can.second (single n live second_not_root)))

  -- from where one meets neither one comes to the root as before
  from_past : (steps other d : ℕ) → IsTrue (is_live_directory t d) → is_beneath steps t d m ≡ false → is_beneath other t d n ≡ false → IsTrue (comes_up steps (tree_swapped t a m b n) d)
  from_past zero other d live past_m past_n = absurd cc
  from_past (suc steps) zero d live past_m past_n = absurd cc
  from_past (suc steps) (suc other) d live past_m past_n =
      let u = tree_swapped t a m b n in
      let not_m = neither (d == m) (not (d == 1) && if_held (holder_of t d) (λ up. is_beneath steps t up m)) past_m in
      let not_n = neither (d == n) (not (d == 1) && if_held (holder_of t d) (λ up. is_beneath other t up n)) past_n in
      elim (d == 1) as (λ c. (d == 1) ≡ c → (not c && if_held (holder_of t d) (λ up. is_beneath steps t up m)) ≡ false → (not c && if_held (holder_of t d) (λ up. is_beneath other t up n)) ≡ false
      → IsTrue (c || if_held (holder_of u d) (λ up. comes_up steps u up))) [
        | true ↦ λ is above_m above_n. refl
        | false ↦ λ is above_m above_n.
            let up = held_by t d (single d live (decided_not d 1 is)) in
            let same : holder_of u d ≡ Some up.0 = holder_else d (λ same. decided_not d m not_m.0 (sym same)) (λ same. decided_not d n not_n.0 (sym same)) ∙ up.1 in
            let over_m : is_beneath steps t up.0 m ≡ false = sym (ap (λ o. if_held o (λ up. is_beneath steps t up m)) up.1) ∙ above_m in
            let over_n : is_beneath other t up.0 n ≡ false = sym (ap (λ o. if_held o (λ up. is_beneath other t up n)) up.1) ∙ above_n in
            rw same (from_past steps other up.0 (holder-live t well d up.0 up.1) over_m over_n)
      ] refl not_m.1 not_n.1

  -- one step more
  on_from : (d up more : ℕ) → holder_of (tree_swapped t a m b n) d ≡ Some up → IsTrue (comes_up more (tree_swapped t a m b n) up) → IsTrue (comes_up (suc more) (tree_swapped t a m b n) d)
  on_from d up more holds above = or_right (d == 1) _ (rw holds above)

  climb : (steps d : ℕ) → IsTrue (is_live_directory t d) → IsTrue (comes_up steps t d) → (more : ℕ) × IsTrue (comes_up more (tree_swapped t a m b n) d)
  climb zero d live h = (0, h)
  climb (suc steps) d live h =
      let u = tree_swapped t a m b n in
      elim (d == 1) as (λ c. (d == 1) ≡ c → IsTrue (c || if_held (holder_of t d) (λ up. comes_up steps t up)) → (more : ℕ) × IsTrue (comes_up more u d)) [
        | true ↦ λ is h'. (0, is)
        | false ↦ λ is h'.
            elim (m == d) as (λ c. (m == d) ≡ c → (more : ℕ) × IsTrue (comes_up more u d)) [
              | true ↦ λ same.
                  let here = decided m d same in
                  let holds : holder_of u d ≡ Some b.dir = ap (holder_of u) (sym here) ∙ held_first (subst (λ k. IsTrue (is_live_directory t k)) (sym here) live) in
                  (suc second_past_first.0, on_from d b.dir second_past_first.0 holds (from_past second_past_first.0 second_past_second.0 b.dir second_dir second_past_first.1 second_past_second.1))
              | false ↦ λ not_m.
                  elim (n == d) as (λ c. (n == d) ≡ c → (more : ℕ) × IsTrue (comes_up more u d)) [
                    | true ↦ λ same.
                        let here = decided n d same in
                        let holds : holder_of u d ≡ Some a.dir = ap (holder_of u) (sym here) ∙ held_second (subst (λ k. IsTrue (is_live_directory t k)) (sym here) live) in
                        (suc first_past_first.0, on_from d a.dir first_past_first.0 holds (from_past first_past_first.0 first_past_second.0 a.dir first_dir first_past_first.1 first_past_second.1))
                    | false ↦ λ not_n.
                        let up = held_by t d (single d live (decided_not d 1 is)) in
                        let holds : holder_of u d ≡ Some up.0 = holder_else d (decided_not m d not_m) (decided_not n d not_n) ∙ up.1 in
                        let on : IsTrue (comes_up steps t up.0) = subst (λ o. IsTrue (if_held o (λ up. comes_up steps t up))) up.1 h' in
                        let rest = climb steps up.0 (holder-live t well d up.0 up.1) on in
                        (suc rest.0, on_from d up.0 rest.0 holds rest.1)
                  ] refl
            ] refl
      ] refl h

  stands_swapped : (e : Spot × ℕ) → Stands t e → Stands (tree_swapped t a m b n) e
  stands_swapped e s = record { named = s.named; held = s.held; leads = s.leads }

  reached_swapped : (q : ℕ) (i : Inode) → inode_of t q ≡ Some i → IsReached t q i → IsReached (tree_swapped t a m b n) q i
  reached_swapped q Directory e r = let up = climb r.1 q (ap is_directory_inode e) r.2 in (λ other. names_swapped q ∙ r.0 other, up.0, up.1)
  reached_swapped q Regular e r = subst (λ k. (1 ≤ k) × (k ≤ MOST_NAMES)) (sym (names_swapped q)) r
  reached_swapped q (Symbolic text) e r = let same = names_swapped q in (rw same r.0, rw same r.1, r.2)

  -- what stands at a name stands at the other
  stands_at : (spot : Spot) (was to : ℕ) → entry_number t spot ≡ Some was → IsTrue (is_some (inode_of t to)) → Stands (tree_swapped t a m b n) (spot, to)
  stands_at spot was to leads lives =
      let here = stands_of (Stands t) spot was t.entries well.entries leads in record { named = here.named; held = here.held; leads = lives }

  swapped-IsWellFormed : IsWellFormed (tree_swapped t a m b n)
  swapped-IsWellFormed =
      let first_lives = names-live t a m well can.first in
      let second_lives = names-live t b n well can.second in
      record {
        entries_in_order = from_test _ (is_sorted-put spot_cmp spots_total b m half.entries (to_test _ half_sorted));
        inodes_in_order = well.inodes_in_order;
        root_is = well.root_is;
        no_entry_leads_to_root = names_swapped 1 ∙ well.no_entry_leads_to_root;
        entries = All-over b m half.entries half_sorted n half_second (Stands (tree_swapped t a m b n)) (stands_at b n m can.second first_lives.lives)
            (All-over a n t.entries well.entries_in_order m can.first (Stands (tree_swapped t a m b n)) (stands_at a m n can.first second_lives.lives)
            (All-weaker (Stands t) (Stands (tree_swapped t a m b n)) stands_swapped t.entries well.entries));
        inodes = λ q i e. let lives = well.inodes q i e in record { made = lives.made; counted = lives.counted; reached = reached_swapped q i e lives.reached };
        next_is = well.next_is;
      }

  pub swapped-changes : SwapsNames t a m b n (tree_swapped t a m b n)
  swapped-changes = record {
    first = first_after;
    second = second_after;
    elsewhere = λ spot not_a not_b. found spot ∙ rw (apart_by_cmp spot b not_b, apart_by_cmp spot a not_a) refl;
    kept = λ q. refl;
    held = held_first;
    held_too = held_second;
    still_held = λ q not_m not_n. holder_else q (λ same. not_m (sym same)) (λ same. not_n (sym same));
    still_named = names_swapped;
  }

pub swap-keeps : SwapKeepsWellFormed
swap-keeps t a m b n well can = swapped-IsWellFormed t a m b n well can

pub swap-changes : SwapChanges
swap-changes t a m b n well can = swapped-changes t a m b n well can
