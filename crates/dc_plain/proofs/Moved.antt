-- A tree in which an inode has another name in place of one of its names stays well formed.
use Rattle.std.proofs.Common.{◌≡◌, ◌≢◌, ℕ, zero, suc, ◌+◌, ◌≤◌, ◌==◌, ◌&&◌, ◌||◌, not, List, [], ◌∷◌, Bool, true, false, cond, Option, Some, None, is_some, IsTrue, refl, ap, sym, ◌∙◌, arith, find, option_map, subst}
use Rattle.std.specs.Ordering.{eq_by_cmp}
use Rattle.std.specs.FinMap.Entries.{is_sorted-put, is_sorted-where_key}
use Rattle.dc_names.specs.declared.limits.TheConstants.{MOST_NAMES}
use Rattle.dc_names.specs.Bytes.{is_name}
use Rattle.dc_plain.specs.Trees.{Tree, Spot, Inode, spot_cmp, how_many, inode_of, entry_number, names_of, holder_of, if_held, is_live_directory, is_directory_inode, without_spot}
use Rattle.dc_plain.specs.Trees.Inode.{Directory, Regular, Symbolic}
use Rattle.dc_plain.specs.Effects.{with_entry_for, without_entry_alone}
use Rattle.dc_plain.specs.Operations.{is_beneath}
use Rattle.dc_plain.specs.IsWellFormed.{IsWellFormed, Stands, IsReached, comes_up}
use Rattle.dc_plain.proofs.Puts.{count-put, All-put, find-put_no, find-put_yes, All-weaker}
use Rattle.dc_plain.proofs.Takes.{All-filter, count-take, find-take, lookup-take}
use Rattle.dc_plain.proofs.Made.{spots_total, to_test, from_test, is_directory_in, or_right, All-lookup}
use Rattle.dc_plain.proofs.Holders.{other_test, same_test, decided, decided_not, holder-live}

pub neither : (a b : Bool) → (a || b) ≡ false → (a ≡ false) × (b ≡ false)
neither true b e = absurd cc
neither false b e = (refl, e)

counted_none : {X : Type 0} (p : X → Bool) (xs : List X) → find p xs ≡ None → how_many p xs ≡ 0
counted_none p [] e = refl
counted_none p (x ∷ xs) e =
    elim (p x) as (λ b. cond b (Some x) (find p xs) ≡ None → cond b 1 0 + how_many p xs ≡ 0) [
      | true ↦ λ is. absurd cc
      | false ↦ λ is. let rest = counted_none p xs is in omega arith
    ] e

-- a directory that isn't the root is held
pub held_by : (t : Tree) (n : ℕ) → names_of t n ≡ 1 → (up : ℕ) × (holder_of t n ≡ Some up)
held_by t n one = by_entry (find (λ e. e.1 == n) t.entries) refl
  where
    by_entry : (o : Option (Spot × ℕ)) → find (λ e. e.1 == n) t.entries ≡ o → (up : ℕ) × (option_map (λ (e : Spot × ℕ). e.0.dir) o ≡ Some up)
    by_entry None is = let none = counted_none (λ (e : Spot × ℕ). e.1 == n) t.entries is in absurd (omega arith)
    by_entry (Some e) is = (e.0.dir, refl)

-- the entry moved
abbrev pub moved_to : Tree → ℕ → List ℕ → ℕ → List ℕ → ℕ → Tree
moved_to t from old to new n = with_entry_for (without_entry_alone t from old) to new n

-- what a move needs of the tree
pub record IsReady (t : Tree) (from : ℕ) (old : List ℕ) (to : ℕ) (new : List ℕ) (n : ℕ) : Type 0 where
  pub well : IsWellFormed t
  pub source : entry_number t (record { dir = from; name = old }) ≡ Some n
  pub free : entry_number t (record { dir = to; name = new }) ≡ None
  pub held : IsTrue (is_live_directory t to)
  pub named : IsTrue (is_name new)
  pub apart : IsTrue (is_live_directory t n) → (steps : ℕ) × (is_beneath steps t to n ≡ false)

module _ (t : Tree) (from : ℕ) (old : List ℕ) (to : ℕ) (new : List ℕ) (n : ℕ) (ready : IsReady t from old to new n) where
  pub still_free : entry_number (without_entry_alone t from old) (record { dir = to; name = new }) ≡ None
  still_free =
      lookup-take spot_cmp spots_total (record { dir = from; name = old }) (record { dir = to; name = new }) t.entries
      ∙ rw (ready.free) (elim (not (eq_by_cmp spot_cmp (record { dir = from; name = old }) (record { dir = to; name = new }))) as (λ b. cond {A = Option ℕ} b None None ≡ None) [ true ↦ refl | false ↦ refl ])

  names_taken : (q : ℕ) → names_of (without_entry_alone t from old) q + cond (n == q) 1 0 ≡ names_of t q
  names_taken q = let well = ready.well in
      count-take spot_cmp spots_total (record { dir = from; name = old }) (λ (v : ℕ). v == q) n t.entries (to_test _ well.entries_in_order) ready.source

  pub names_moved : (q : ℕ) → names_of (moved_to t from old to new n) q ≡ names_of t q
  names_moved q = count-put spot_cmp (record { dir = to; name = new }) n (λ e. e.1 == q) (without_spot (record { dir = from; name = old }) t.entries) still_free ∙ names_taken q

  pub holder_else : (q : ℕ) → n ≢ q → holder_of (moved_to t from old to new n) q ≡ holder_of t q
  holder_else q other =
      let well = ready.well in
      ap (option_map (λ e. e.0.dir)) (find-put_no spot_cmp (record { dir = to; name = new }) n (λ e. e.1 == q) (without_spot (record { dir = from; name = old }) t.entries) still_free (other_test n q other)
      ∙ find-take spot_cmp spots_total (record { dir = from; name = old }) (λ (v : ℕ). v == q) n t.entries (to_test _ well.entries_in_order) ready.source (other_test n q other))

  none_left : names_of t n ≡ 1 → names_of (without_entry_alone t from old) n ≡ 0
  none_left one =
      let counted : names_of (without_entry_alone t from old) n + 1 ≡ names_of t n = sym (ap (λ b. names_of (without_entry_alone t from old) n + cond b 1 0) (same_test n)) ∙ names_taken n in omega arith

  pub holder_moved : names_of t n ≡ 1 → holder_of (moved_to t from old to new n) n ≡ Some to
  holder_moved one = ap (option_map (λ e. e.0.dir))
      (find-put_yes spot_cmp (record { dir = to; name = new }) n (λ e. e.1 == n) (without_spot (record { dir = from; name = old }) t.entries) still_free (same_test n) (none_left one))

  pub single : (q : ℕ) → IsTrue (is_live_directory t q) → q ≢ 1 → names_of t q ≡ 1
  single q live other = let well = ready.well in let lives = well.inodes q Directory (is_directory_in (inode_of t q) live) in lives.reached.0 other

  -- from where the new name stands one comes to the root, since one doesn't meet n
  from_beneath : (steps d : ℕ) → IsTrue (is_live_directory t d) → is_beneath steps t d n ≡ false → IsTrue (comes_up steps (moved_to t from old to new n) d)
  from_beneath zero d live e = absurd cc
  from_beneath (suc steps) d live e =
      let u = moved_to t from old to new n in
      let parts = neither (d == n) (not (d == 1) && if_held (holder_of t d) (λ up. is_beneath steps t up n)) e in
      elim (d == 1) as (λ b. (d == 1) ≡ b → (not b && if_held (holder_of t d) (λ up. is_beneath steps t up n)) ≡ false → IsTrue (b || if_held (holder_of u d) (λ up. comes_up steps u up))) [
        | true ↦ λ is above. refl
        | false ↦ λ is above.
            let up = held_by t d (single d live (decided_not d 1 is)) in
            let same : holder_of u d ≡ Some up.0 = holder_else d (λ same. decided_not d n parts.0 (sym same)) ∙ up.1 in
            let over : is_beneath steps t up.0 n ≡ false = sym (ap (λ o. if_held o (λ up. is_beneath steps t up n)) up.1) ∙ above in
            rw same (from_beneath steps up.0 (holder-live t ready.well d up.0 up.1) over)
      ] refl parts.1

  -- from any directory
  climb : (steps d : ℕ) → IsTrue (is_live_directory t d) → IsTrue (comes_up steps t d) → (more : ℕ) × IsTrue (comes_up more (moved_to t from old to new n) d)
  climb zero d live h = (0, h)
  climb (suc steps) d live h =
      let u = moved_to t from old to new n in
      elim (d == 1) as (λ b. (d == 1) ≡ b → IsTrue (b || if_held (holder_of t d) (λ up. comes_up steps t up)) → (more : ℕ) × IsTrue (comes_up more u d)) [
        | true ↦ λ is h'. (0, is)
        | false ↦ λ is h'.
            let one = single d live (decided_not d 1 is) in
            let up = held_by t d one in
            elim (n == d) as (λ b. (n == d) ≡ b → (more : ℕ) × IsTrue (comes_up more u d)) [
              | true ↦ λ same.
                  let here = decided n d same in
                  let beneath = ready.apart (subst (λ k. IsTrue (is_live_directory t k)) (sym here) live) in
                  let holds : holder_of u d ≡ Some to = ap (holder_of u) (sym here) ∙ holder_moved (ap (names_of t) here ∙ one) in
                  (suc beneath.0, or_right (d == 1) _ (rw holds (from_beneath beneath.0 to ready.held beneath.1)))
              | false ↦ λ other.
                  let holds : holder_of u d ≡ Some up.0 = holder_else d (decided_not n d other) ∙ up.1 in
                  let on : IsTrue (comes_up steps t up.0) = subst (λ o. IsTrue (if_held o (λ up. comes_up steps t up))) up.1 h' in
                  let rest = climb steps up.0 (holder-live t ready.well d up.0 up.1) on in
                  (suc rest.0, or_right (d == 1) _ (rw holds rest.1))
            ] refl
      ] refl h

  stands_moved : (e : Spot × ℕ) → Stands t e → Stands (moved_to t from old to new n) e
  stands_moved e s = record { named = s.named; held = s.held; leads = s.leads }

  reached_moved : (q : ℕ) (i : Inode) → inode_of t q ≡ Some i → IsReached t q i → IsReached (moved_to t from old to new n) q i
  reached_moved q Directory e r = let up = climb r.1 q (ap is_directory_inode e) r.2 in (λ other. names_moved q ∙ r.0 other, up.0, up.1)
  reached_moved q Regular e r = subst (λ k. (1 ≤ k) × (k ≤ MOST_NAMES)) (sym (names_moved q)) r
  reached_moved q (Symbolic text) e r = let same = names_moved q in (rw same r.0, rw same r.1, r.2)

  pub moved-IsWellFormed : IsWellFormed (moved_to t from old to new n)
  moved-IsWellFormed = let well = ready.well in record {
    entries_in_order = from_test _ (is_sorted-put spot_cmp spots_total (record { dir = to; name = new }) n _ (is_sorted-where_key spot_cmp _ t.entries (to_test _ well.entries_in_order)));
    inodes_in_order = well.inodes_in_order;
    root_is = well.root_is;
    no_entry_leads_to_root = names_moved 1 ∙ well.no_entry_leads_to_root;
    entries = All-put spot_cmp (record { dir = to; name = new }) n (Stands (moved_to t from old to new n)) (without_spot (record { dir = from; name = old }) t.entries) still_free
        (record { named = ready.named; held = ready.held; leads = All-lookup spot_cmp (λ k. IsTrue (is_some (inode_of t k))) (record { dir = from; name = old }) t.entries (All-weaker (Stands t) _ (λ e s. s.leads) t.entries well.entries) n ready.source })
        (All-filter _ _ t.entries (All-weaker (Stands t) (Stands (moved_to t from old to new n)) stands_moved t.entries well.entries));
    inodes = λ q i e. let lives = well.inodes q i e in record { made = lives.made; counted = lives.counted; reached = reached_moved q i e lives.reached };
    next_is = well.next_is;
  }
