-- A tree with a new inode stays well formed.
use Rattle.std.proofs.Common.{◌≡◌, ◌≢◌, ℕ, suc, ◌≤◌, ◌<◌, ◌==◌, ◌||◌, ◌^◌, List, [], ◌∷◌, Bool, true, false, cond, Option, Some, None, is_some, is_ok, IsTrue, T, refl, ap, sym, ◌∙◌, arith, length, option_map, option_and_then, subst}
use Rattle.std.specs.declared.cmp.Ordering.{Ordering}
use Rattle.dc_names.specs.declared.limits.TheConstants.{MOST_NAMES}
use Rattle.dc_plain.specs.Facts.Label.{Entry}
use Rattle.std.specs.List.{AllByRecursion}
use Rattle.std.specs.Cmp.{nat_cmp_total, IsTotalOrder}
use Rattle.std.specs.Cmp.Lexicographic.{nat_list_cmp_total}
use Rattle.std.specs.Ordering.{nat_cmp, eq_by_cmp}
use Rattle.std.specs.FinMap.Entries.{put, is_sorted-put, find-put, length-put}
use Rattle.std.specs.FinMap.Entries.{find as lookup}
use Rattle.std.proofs.lemmas.Cmp.{on_total, then_total}
use Rattle.std.proofs.lemmas.Bool.Decides.{nat_tests}
use Rattle.dc_names.specs.Bytes.{is_name}
use Rattle.dc_names.specs.Paths.{path_of}
use Rattle.dc_plain.specs.Trees.{entry_of, target_at, Tree, Spot, Inode, spot_cmp, inode_of, entry_number, names_of, holder_of, is_live_directory, is_directory_inode}
use Rattle.dc_plain.specs.Trees.Inode.{Directory, Regular, Symbolic}
use Rattle.dc_plain.specs.Effects.{with_new}
use Rattle.dc_plain.specs.IsWellFormed.{IsWellFormed, Stands, Lives, IsReached, comes_up}
use Rattle.dc_plain.proofs.Holders.{other_test, same_test, holder-live, comes_up-kept}
use Rattle.dc_plain.proofs.Puts.{count-put, All-put, find-put_no, find-put_yes, All-weaker, count_none}

pub spots_total : IsTotalOrder spot_cmp
spots_total = then_total (on_total (λ s. s.dir) nat_cmp_total) (on_total (λ s. s.name) nat_list_cmp_total)

pub same_number : (m n : ℕ) → eq_by_cmp nat_cmp m n ≡ true → m ≡ n
same_number m n e = grind (arith, nat_tests)

pub itself : (n : ℕ) → eq_by_cmp nat_cmp n n ≡ true
itself n = grind (arith, nat_tests)

pub other_number : (m n : ℕ) → m ≢ n → eq_by_cmp nat_cmp m n ≡ false
other_number m n e = grind (arith, nat_tests)

pub is_directory_in : (o : Option Inode) → is_directory_inode o ≡ true → o ≡ Some Directory
is_directory_in None e = cc
is_directory_in (Some Directory) e = refl
is_directory_in (Some Regular) e = cc
is_directory_in (Some (Symbolic text)) e = cc

pub some_in : (o : Option Inode) → is_some o ≡ true → (i : Inode) × (o ≡ Some i)
some_in None e = absurd cc
some_in (Some i) e = (i, refl)

pub to_test : (b : Bool) → b ≡ true → T b
to_test true e = tt
to_test false e = cc

pub from_test : (b : Bool) → T b → b ≡ true
from_test true t = refl
from_test false t = absurd t

-- a link's text has a path
abbrev pub IsGood : Inode → Type 0
IsGood Directory = Unit {0}
IsGood Regular = Unit {0}
IsGood (Symbolic text) = IsTrue (is_ok (path_of text))

pub or_right : (a b : Bool) → IsTrue b → IsTrue (a || b)
or_right true b h = refl
or_right false b h = h

module _ (t : Tree) (d : ℕ) (name : List ℕ) (inode : Inode) (well : IsWellFormed t) (in_directory : IsTrue (is_live_directory t d))
    (free : entry_number t (record { dir = d; name = name }) ≡ None) where
  new : Tree
  new = with_new t d name inode

  spot : Spot
  spot = record { dir = d; name = name }

  below : (n : ℕ) (i : Inode) → inode_of t n ≡ Some i → n < t.next
  below n i e = let lives = well.inodes n i e in lives.made

  unused_by : (o : Option Inode) → inode_of t t.next ≡ o → o ≡ None
  unused_by None e = refl
  unused_by (Some i) e = let low = below t.next i e in absurd (omega arith)

  pub unused : inode_of t t.next ≡ None
  unused = unused_by (inode_of t t.next) refl

  pub inode_new : (q : ℕ) → inode_of (with_new t d name inode) q ≡ cond (eq_by_cmp nat_cmp q t.next) (Some inode) (inode_of t q)
  inode_new q = find-put nat_cmp nat_cmp_total q t.next inode t.inodes

  pub apart : (n : ℕ) (i : Inode) → inode_of t n ≡ Some i → n ≢ t.next
  apart n i e same = let low = below n i e in absurd (omega arith)

  pub kept : (n : ℕ) (i : Inode) → inode_of t n ≡ Some i → inode_of (with_new t d name inode) n ≡ Some i
  kept n i e = inode_new n ∙ rw (other_number n t.next (apart n i e)) e

  directory_kept : (n : ℕ) → IsTrue (is_live_directory t n) → IsTrue (is_live_directory (with_new t d name inode) n)
  directory_kept n h = rw (kept n Directory (is_directory_in (inode_of t n) h)) refl

  live_kept : (n : ℕ) → IsTrue (is_some (inode_of t n)) → IsTrue (is_some (inode_of (with_new t d name inode) n))
  live_kept n h = let i = some_in (inode_of t n) h in rw (kept n i.0 i.1) refl

  stands_kept : (e : Spot × ℕ) → Stands t e → Stands (with_new t d name inode) e
  stands_kept e s = record { named = s.named; held = directory_kept e.0.dir s.held; leads = live_kept e.1 s.leads }

  pub names_kept : (n : ℕ) → n ≢ t.next → names_of (with_new t d name inode) n ≡ names_of t n
  names_kept n other =
      let counted = count-put spot_cmp (record { dir = d; name = name }) t.next (λ e. e.1 == n) t.entries free in
      let not_new : (t.next == n) ≡ false = other_test t.next n (λ same. other (sym same)) in
      counted ∙ rw not_new (omega arith)

  pub holder_kept : (n : ℕ) → n ≢ t.next → holder_of (with_new t d name inode) n ≡ holder_of t n
  holder_kept n other =
      ap (option_map (λ e. e.0.dir)) (find-put_no spot_cmp (record { dir = d; name = name }) t.next (λ e. e.1 == n) t.entries free (other_test t.next n (λ same. other (sym same))))

  holder_kept_live : (n : ℕ) → IsTrue (is_live_directory t n) → holder_of (with_new t d name inode) n ≡ holder_of t n
  holder_kept_live n live = holder_kept n (apart n Directory (is_directory_in (inode_of t n) live))

  up_kept : (steps n : ℕ) → IsTrue (is_live_directory t n) → IsTrue (comes_up steps t n) → IsTrue (comes_up steps (with_new t d name inode) n)
  up_kept = comes_up-kept (λ n. IsTrue (is_live_directory t n)) t (with_new t d name inode) (λ n up live e. holder-live t well n up e) holder_kept_live

  pub length_new : length (put nat_cmp t.next inode t.inodes) ≡ suc (length t.inodes)
  length_new = length-put nat_cmp nat_cmp_total t.next inode t.inodes (to_test _ well.inodes_in_order) ∙ rw unused (omega arith)

  -- how each inode is reached
  reached_kept : (n : ℕ) (i : Inode) → inode_of t n ≡ Some i → IsReached t n i → IsReached (with_new t d name inode) n i
  reached_kept n Directory e r = (λ other. names_kept n (apart n Directory e) ∙ r.0 other, r.1, up_kept r.1 n (ap is_directory_inode e) r.2)
  reached_kept n Regular e r = subst (λ k. (1 ≤ k) × (k ≤ MOST_NAMES)) (sym (names_kept n (apart n Regular e))) r
  reached_kept n (Symbolic text) e r = (rw (names_kept n (apart n (Symbolic text) e)) r.0, rw (names_kept n (apart n (Symbolic text) e)) r.1, r.2)

  none_leads : names_of t t.next ≡ 0
  none_leads = count_none (Stands t) (λ e. e.1 == t.next) (λ e s. let i = some_in (inode_of t e.1) s.leads in other_test e.1 t.next (apart e.1 i.0 i.1)) t.entries well.entries

  pub one_leads : names_of (with_new t d name inode) t.next ≡ 1
  one_leads =
      let counted = count-put spot_cmp (record { dir = d; name = name }) t.next (λ e. e.1 == t.next) t.entries free in
      counted ∙ rw (same_test t.next) (omega (arith, none_leads))

  pub holder_new : holder_of (with_new t d name inode) t.next ≡ Some d
  holder_new = ap (option_map (λ e. e.0.dir)) (find-put_yes spot_cmp (record { dir = d; name = name }) t.next (λ e. e.1 == t.next) t.entries free (same_test t.next) none_leads)

  reached_made : (i : Inode) → IsGood i → IsReached (with_new t d name inode) t.next i
  reached_made Directory good =
      let up = well.inodes d Directory (is_directory_in (inode_of t d) in_directory) in
      (λ other. one_leads, suc up.reached.1, or_right (t.next == 1) _ (rw holder_new (up_kept up.reached.1 d in_directory up.reached.2)))
  reached_made Regular good = (omega (arith, one_leads), omega (arith, one_leads))
  reached_made (Symbolic text) good = (omega (arith, one_leads), omega (arith, one_leads), good)

  lives_new : IsGood inode → (n : ℕ) (i : Inode) (b : Bool) → eq_by_cmp nat_cmp n t.next ≡ b → cond b (Some inode) (inode_of t n) ≡ Some i → Lives (with_new t d name inode) n i
  lives_new good n i true same e =
      let is : inode ≡ i = cc in
      let here : n ≡ t.next = same_number n t.next same in
      let low = below 1 Directory well.root_is in
      record { made = omega arith; counted = omega arith; reached = subst (λ k. IsReached (with_new t d name inode) k i) (sym here) (subst (λ j. IsReached (with_new t d name inode) t.next j) is (reached_made inode good)) }
  lives_new good n i false other e =
      let old = well.inodes n i e in
      record { made = let low = old.made in omega arith; counted = old.counted; reached = reached_kept n i e old.reached }

  pub made : inode_of (with_new t d name inode) t.next ≡ Some inode
  made = inode_new t.next ∙ rw (itself t.next) refl

  stands_new : IsTrue (is_name name) → Stands (with_new t d name inode) (record { dir = d; name = name }, t.next)
  stands_new named = record { named = named; held = directory_kept d in_directory; leads = rw made refl }

  pub with_new-IsWellFormed : IsGood inode → IsTrue (is_name name) → t.next < 2 ^ 63 → IsWellFormed (with_new t d name inode)
  with_new-IsWellFormed good named low = record {
    entries_in_order = from_test _ (is_sorted-put spot_cmp spots_total (record { dir = d; name = name }) t.next t.entries (to_test _ well.entries_in_order));
    inodes_in_order = from_test _ (is_sorted-put nat_cmp nat_cmp_total t.next inode t.inodes (to_test _ well.inodes_in_order));
    root_is = kept 1 Directory well.root_is;
    no_entry_leads_to_root = names_kept 1 (apart 1 Directory well.root_is) ∙ well.no_entry_leads_to_root;
    entries = All-put spot_cmp (record { dir = d; name = name }) t.next (Stands (with_new t d name inode)) t.entries free (stands_new named) (All-weaker (Stands t) (Stands (with_new t d name inode)) stands_kept t.entries well.entries);
    inodes = λ n i e. lives_new good n i (eq_by_cmp nat_cmp n t.next) refl (sym (inode_new n) ∙ e);
    next_is = omega arith;
  }

-- what has no place has no entry
pub All-lookup : {K X : Type 0} (R : K → K → Ordering) (P : X → Type 0) (q : K) (es : List (K × X)) → AllByRecursion (λ e. P e.1) es → (v : X) → lookup R q es ≡ Some v → P v
All-lookup R P q [] all v e = cc
All-lookup R P q (x ∷ xs) all v e =
    elim (eq_by_cmp R q x.0) as (λ b. cond b (Some x.1) (lookup R q xs) ≡ Some v → P v) [
      | true ↦ λ is. let same : x.1 ≡ v = cc in subst P same all.0
      | false ↦ λ is. All-lookup R P q xs all.1 v is
    ] e

pub absent : (t : Tree) (n : ℕ) (i : Inode) → inode_of t n ≡ Some i → is_some (target_at t n) ≡ false → ⊥
absent t n i e none = let there : is_some (target_at t n) ≡ true = rw e refl in cc

pub free_spot : (t : Tree) (d : ℕ) (name : List ℕ) → IsWellFormed t → is_some (entry_of t d (Entry name)) ≡ false → entry_number t (record { dir = d; name = name }) ≡ None
free_spot t d name well none = by_target (entry_number t (record { dir = d; name = name })) refl none
  where
    by_target : (o : Option ℕ) → entry_number t (record { dir = d; name = name }) ≡ o → is_some (option_and_then (target_at t) o) ≡ false → o ≡ None
    by_target None e none' = refl
    by_target (Some n) e none' =
        let live = All-lookup spot_cmp (λ k. IsTrue (is_some (inode_of t k))) (record { dir = d; name = name }) t.entries (All-weaker (Stands t) (λ s. IsTrue (is_some (inode_of t s.1))) (λ x s. s.leads) t.entries well.entries) n e in
        let i = some_in (inode_of t n) live in
        absurd (absent t n i.0 i.1 none')

pub unused_number : (t : Tree) → IsWellFormed t → inode_of t t.next ≡ None
unused_number t well = by_inode (inode_of t t.next) refl
  where
    by_inode : (o : Option Inode) → inode_of t t.next ≡ o → o ≡ None
    by_inode None e = refl
    by_inode (Some i) e = let lives = well.inodes t.next i e in absurd (omega arith)
