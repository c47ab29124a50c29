-- A tree with a further name for what is no directory stays well formed.
use Rattle.std.proofs.Common.{◌≡◌, ◌≢◌, ℕ, ◌+◌, ◌≤◌, ◌<◌, ◌==◌, List, Bool, true, false, cond, Some, None, IsTrue, refl, ap, ◌∙◌, arith, option_map, subst}
use Rattle.std.specs.FinMap.Entries.{is_sorted-put}
use Rattle.dc_names.specs.declared.limits.TheConstants.{MOST_NAMES}
use Rattle.dc_names.specs.Bytes.{is_name}
use Rattle.dc_plain.specs.Trees.{Tree, Spot, Inode, spot_cmp, inode_of, entry_number, names_of, holder_of, is_live_directory, is_directory_inode}
use Rattle.dc_plain.specs.Trees.Inode.{Directory, Regular, Symbolic}
use Rattle.dc_plain.specs.Effects.{with_entry_for}
use Rattle.dc_plain.specs.IsWellFormed.{IsWellFormed, Stands, IsReached}
use Rattle.dc_plain.proofs.Puts.{count-put, All-put, find-put_no, All-weaker}
use Rattle.dc_plain.proofs.Made.{spots_total, to_test, from_test}
use Rattle.dc_plain.proofs.Holders.{other_test, decided, holder-live, comes_up-kept}

module _ (t : Tree) (d : ℕ) (name : List ℕ) (n : ℕ) (free : entry_number t (record { dir = d; name = name }) ≡ None) where
  pub names_linked : (q : ℕ) → names_of (with_entry_for t d name n) q ≡ names_of t q + cond (n == q) 1 0
  names_linked q = count-put spot_cmp (record { dir = d; name = name }) n (λ e. e.1 == q) t.entries free

  pub holder_else_linked : (q : ℕ) → n ≢ q → holder_of (with_entry_for t d name n) q ≡ holder_of t q
  holder_else_linked q other = ap (option_map (λ e. e.0.dir)) (find-put_no spot_cmp (record { dir = d; name = name }) n (λ e. e.1 == q) t.entries free (other_test n q other))

module _ (t : Tree) (d : ℕ) (name : List ℕ) (n : ℕ) (inode : Inode) (well : IsWellFormed t) (in_directory : IsTrue (is_live_directory t d))
    (free : entry_number t (record { dir = d; name = name }) ≡ None) (lives : inode_of t n ≡ Some inode) (no_directory : is_directory_inode (Some inode) ≡ false) where
  -- a directory is another inode
  apart_from : (q : ℕ) → IsTrue (is_live_directory t q) → n ≢ q
  apart_from q live same = let is : is_live_directory t n ≡ true = rw same live in let not' : is_live_directory t n ≡ false = rw lives no_directory in cc

  pub holder_linked : (q : ℕ) → IsTrue (is_live_directory t q) → holder_of (with_entry_for t d name n) q ≡ holder_of t q
  holder_linked q live = holder_else_linked t d name n free q (apart_from q live)

  stands_linked : (e : Spot × ℕ) → Stands t e → Stands (with_entry_for t d name n) e
  stands_linked e s = record { named = s.named; held = s.held; leads = s.leads }

  few_names : names_of t n < MOST_NAMES → (q : ℕ) → 1 ≤ names_of t q → names_of t q ≤ MOST_NAMES → (1 ≤ names_of (with_entry_for t d name n) q) × (names_of (with_entry_for t d name n) q ≤ MOST_NAMES)
  few_names few q some most =
      by_test (n == q) refl
    where
      by_test : (b : Bool) → (n == q) ≡ b → (1 ≤ names_of (with_entry_for t d name n) q) × (names_of (with_entry_for t d name n) q ≤ MOST_NAMES)
      by_test true e =
          let counted : names_of (with_entry_for t d name n) q ≡ names_of t q + 1 = names_linked t d name n free q ∙ rw e refl in
          let below : names_of t q < MOST_NAMES = subst (λ k. names_of t k < MOST_NAMES) (decided n q e) few in
          (omega arith, omega arith)
      by_test false e =
          let counted : names_of (with_entry_for t d name n) q ≡ names_of t q + 0 = names_linked t d name n free q ∙ rw e refl in
          (omega arith, omega arith)

  reached_linked : names_of t n < MOST_NAMES → (q : ℕ) (i : Inode) → inode_of t q ≡ Some i → IsReached t q i → IsReached (with_entry_for t d name n) q i
  reached_linked few q Directory e r =
      let live : IsTrue (is_live_directory t q) = ap is_directory_inode e in (
        λ other. names_linked t d name n free q ∙ rw (other_test n q (apart_from q live)) (omega (arith, r.0 other)),
        r.1,
        comes_up-kept (λ k. IsTrue (is_live_directory t k)) t (with_entry_for t d name n) (λ k up l is. holder-live t well k up is) holder_linked r.1 q live r.2,
      )
  reached_linked few q Regular e r = few_names few q r.0 r.1
  reached_linked few q (Symbolic text) e r = let k = few_names few q r.0 r.1 in (k.0, k.1, r.2)

  pub with_entry_for-IsWellFormed : IsTrue (is_name name) → names_of t n < MOST_NAMES → IsWellFormed (with_entry_for t d name n)
  with_entry_for-IsWellFormed named few = record {
    entries_in_order = from_test _ (is_sorted-put spot_cmp spots_total (record { dir = d; name = name }) n t.entries (to_test _ well.entries_in_order));
    inodes_in_order = well.inodes_in_order;
    root_is = well.root_is;
    no_entry_leads_to_root = names_linked t d name n free 1 ∙ rw (other_test n 1 (apart_from 1 (ap is_directory_inode well.root_is))) (omega (arith, well.no_entry_leads_to_root));
    entries = All-put spot_cmp (record { dir = d; name = name }) n (Stands (with_entry_for t d name n)) t.entries free
        (record { named = named; held = in_directory; leads = rw lives refl }) (All-weaker (Stands t) (Stands (with_entry_for t d name n)) stands_linked t.entries well.entries);
    inodes = λ q i e. let old = well.inodes q i e in record { made = old.made; counted = old.counted; reached = reached_linked few q i e old.reached };
    next_is = well.next_is;
  }
