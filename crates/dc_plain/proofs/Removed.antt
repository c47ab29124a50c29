-- A tree without an entry, and without its inode if that was its last name, stays well formed.
use Rattle.std.proofs.Common.{◌≡◌, ◌≢◌, ℕ, ◌+◌, ◌≤◌, ◌==◌, List, [], ◌∷◌, Bool, true, false, cond, not, Option, Some, None, is_some, IsTrue, refl, ap, sym, ◌∙◌, arith, find, option_map, subst, if◌then◌else◌, map, filter}
use Rattle.std.specs.Ordering.{nat_cmp, is_eq}
use Rattle.std.specs.List.{AllByRecursion}
use Rattle.std.specs.FinMap.Entries.{is_sorted, is_sorted-where_key, find-where_key}
use Rattle.dc_names.specs.declared.limits.TheConstants.{MOST_NAMES}
use Rattle.dc_names.specs.Bytes.{is_empty}
use Rattle.dc_plain.specs.Trees.{names_in, Tree, Spot, Inode, spot_cmp, inode_of, entry_number, names_of, holder_of, is_live_directory, is_directory_inode, without_spot, without_number}
use Rattle.dc_plain.specs.Trees.Inode.{Directory, Regular, Symbolic}
use Rattle.dc_plain.specs.Effects.{without_entry}
use Rattle.dc_plain.specs.IsWellFormed.{IsWellFormed, Stands, IsReached}
use Rattle.std.specs.FinMap.Entries.{find as lookup}
use Rattle.std.proofs.lemmas.Bool.Decides.{nat_tests}
use Rattle.dc_plain.proofs.Puts.{All-weaker}
use Rattle.dc_plain.proofs.Takes.{All-filter, count-take, find-take, none_passes}
use Rattle.dc_plain.proofs.Made.{spots_total, to_test, from_test, is_directory_in, some_in, same_number}
use Rattle.dc_plain.proofs.Holders.{other_test, same_test, decided, decided_not, holder-live, comes_up-kept, All-find}

-- without the entry, and with these inodes
abbrev pub left_of : Tree → ℕ → List ℕ → List (ℕ × Inode) → Tree
left_of t d name inodes = record { entries = without_spot (record { dir = d; name = name }) t.entries; inodes = inodes; next = t.next }

-- nothing stands in n
abbrev pub IsUnentered : Tree → ℕ → Type 0
IsUnentered t n = AllByRecursion (λ (e : Spot × ℕ). e.0.dir ≢ n) t.entries

All-both : {X : Type 0} (P Q : X → Type 0) (xs : List X) → AllByRecursion P xs → AllByRecursion Q xs → AllByRecursion (λ x. P x × Q x) xs
All-both P Q [] p q = tt
All-both P Q (x ∷ xs) p q = ((p.0, q.0), All-both P Q xs p.1 q.1)

module _ (t : Tree) (d : ℕ) (name : List ℕ) (n : ℕ) (well : IsWellFormed t) (leads : entry_number t (record { dir = d; name = name }) ≡ Some n) (unentered : IsUnentered t n) (inodes : List (ℕ × Inode)) where
  pub names_left : (q : ℕ) → names_of (left_of t d name inodes) q + cond (n == q) 1 0 ≡ names_of t q
  names_left q = count-take spot_cmp spots_total (record { dir = d; name = name }) (λ (v : ℕ). v == q) n t.entries (to_test _ well.entries_in_order) leads

  pub holder_left : (q : ℕ) → n ≢ q → holder_of (left_of t d name inodes) q ≡ holder_of t q
  holder_left q other = ap (option_map (λ e. e.0.dir))
      (find-take spot_cmp spots_total (record { dir = d; name = name }) (λ (v : ℕ). v == q) n t.entries (to_test _ well.entries_in_order) leads (other_test n q other))

  pub one_less : names_of (left_of t d name inodes) n + 1 ≡ names_of t n
  one_less = sym (ap (λ b. names_of (left_of t d name inodes) n + cond b 1 0) (same_test n)) ∙ names_left n

  has_name : 1 ≤ names_of t n
  has_name = omega (arith, one_less)

  pub not_root : n ≢ 1
  not_root same = let one : 1 ≤ names_of t 1 = subst (λ k. 1 ≤ names_of t k) same has_name in let none = well.no_entry_leads_to_root in absurd (omega arith)

  -- nothing is held by n
  pub not_holder : (q up : ℕ) → holder_of t q ≡ Some up → n ≢ up
  not_holder q up e = by_entry (find (λ e. e.1 == q) t.entries) refl e
    where
      by_entry : (o : Option (Spot × ℕ)) → find (λ e. e.1 == q) t.entries ≡ o → option_map (λ e. e.0.dir) o ≡ Some up → n ≢ up
      by_entry None is e' = absurd cc
      by_entry (Some found) is e' =
          let out = All-find (λ (e : Spot × ℕ). e.0.dir ≢ n) (λ e. e.1 == q) t.entries unentered found is in
          let up_is : found.0.dir ≡ up = cc in
          λ same. out (up_is ∙ sym same)

  module _ (in_order : IsTrue (is_sorted nat_cmp inodes)) (fewer : (q : ℕ) (i : Inode) → inode_of (left_of t d name inodes) q ≡ Some i → inode_of t q ≡ Some i)
      (kept : (q : ℕ) (i : Inode) → n ≢ q → inode_of t q ≡ Some i → inode_of (left_of t d name inodes) q ≡ Some i)
      (last : (i : Inode) → inode_of (left_of t d name inodes) n ≡ Some i → 1 ≤ names_of (left_of t d name inodes) n)
      (lead : AllByRecursion (λ (e : Spot × ℕ). IsTrue (is_some (inode_of (left_of t d name inodes) e.1))) (without_spot (record { dir = d; name = name }) t.entries)) where
    stands_left : (e : Spot × ℕ) → (Stands t e × e.0.dir ≢ n) × IsTrue (is_some (inode_of (left_of t d name inodes) e.1)) → Stands (left_of t d name inodes) e
    stands_left e s =
        let held : IsTrue (is_live_directory t e.0.dir) = s.0.0.held in
        record { named = s.0.0.named; held = ap is_directory_inode (kept e.0.dir Directory (λ same. s.0.1 (sym same)) (is_directory_in (inode_of t e.0.dir) held)); leads = s.1 }

    few_left : (q : ℕ) (i : Inode) → inode_of (left_of t d name inodes) q ≡ Some i → 1 ≤ names_of t q → names_of t q ≤ MOST_NAMES
        → (1 ≤ names_of (left_of t d name inodes) q) × (names_of (left_of t d name inodes) q ≤ MOST_NAMES)
    few_left q i e some most = by_test (n == q) refl
      where
        by_test : (b : Bool) → (n == q) ≡ b → (1 ≤ names_of (left_of t d name inodes) q) × (names_of (left_of t d name inodes) q ≤ MOST_NAMES)
        by_test true is =
            let counted : names_of (left_of t d name inodes) q + 1 ≡ names_of t q = sym (ap (λ b. names_of (left_of t d name inodes) q + cond b 1 0) is) ∙ names_left q in
            let here : n ≡ q = decided n q is in
            (subst (λ k. 1 ≤ names_of (left_of t d name inodes) k) here (last i (ap (inode_of (left_of t d name inodes)) here ∙ e)), omega arith)
        by_test false is =
            let counted : names_of (left_of t d name inodes) q + 0 ≡ names_of t q = sym (ap (λ b. names_of (left_of t d name inodes) q + cond b 1 0) is) ∙ names_left q in
            (omega arith, omega arith)

    -- a directory that is left is another
    directory_left : (q : ℕ) → inode_of (left_of t d name inodes) q ≡ Some Directory → (q ≢ 1 → names_of t q ≡ 1) → n ≢ q
    directory_left q e one same =
        let some = last Directory (ap (inode_of (left_of t d name inodes)) same ∙ e) in
        let single : names_of t n ≡ 1 = ap (names_of t) same ∙ one (λ root. not_root (same ∙ root)) in
        absurd (omega (arith, one_less))

    reached_left : (q : ℕ) (i : Inode) → inode_of (left_of t d name inodes) q ≡ Some i → IsReached t q i → IsReached (left_of t d name inodes) q i
    reached_left q Directory e r =
        let other : n ≢ q = directory_left q e r.0 in
        let counted : names_of (left_of t d name inodes) q + 0 ≡ names_of t q = sym (ap (λ b. names_of (left_of t d name inodes) q + cond b 1 0) (other_test n q other)) ∙ names_left q in (
          λ apart. let single = r.0 apart in omega arith,
          r.1,
          comes_up-kept (λ k. IsTrue (is_live_directory t k) × n ≢ k) t (left_of t d name inodes) (λ k up p is. (holder-live t well k up is, not_holder k up is)) (λ k p. holder_left k p.1)
              r.1 q (ap is_directory_inode (fewer q Directory e), other) r.2,
        )
    reached_left q Regular e r = few_left q Regular e r.0 r.1
    reached_left q (Symbolic text) e r = let k = few_left q (Symbolic text) e r.0 r.1 in (k.0, k.1, r.2)

    pub left-IsWellFormed : IsWellFormed (left_of t d name inodes)
    left-IsWellFormed = record {
      entries_in_order = from_test _ (is_sorted-where_key spot_cmp _ t.entries (to_test _ well.entries_in_order));
      inodes_in_order = in_order;
      root_is = kept 1 Directory not_root well.root_is;
      no_entry_leads_to_root = let counted = names_left 1 in let none = well.no_entry_leads_to_root in omega arith;
      entries = All-weaker _ (Stands (left_of t d name inodes)) stands_left _ (All-both _ _ _ (All-filter (λ (e : Spot × ℕ). Stands t e × e.0.dir ≢ n) _ t.entries (All-both _ _ t.entries well.entries unentered)) lead);
      inodes = λ q i e. let old = well.inodes q i (fewer q i e) in record { made = old.made; counted = old.counted; reached = reached_left q i e old.reached };
      next_is = well.next_is;
    }

-- each entry that is left leads to what lives
leads_on : (t : Tree) (spot : Spot) → IsWellFormed t → AllByRecursion (λ (e : Spot × ℕ). IsTrue (is_some (inode_of t e.1))) (without_spot spot t.entries)
leads_on t spot well = All-filter _ _ t.entries (All-weaker (Stands t) _ (λ e s. s.leads) t.entries well.entries)

not_zero : (k : ℕ) → (k == 0) ≡ false → 1 ≤ k
not_zero k e = grind (arith, nat_tests)

is_zero : (k : ℕ) → (k == 0) ≡ true → k ≡ 0
is_zero k e = grind (arith, nat_tests)

pub inode_without : (n q : ℕ) (inodes : List (ℕ × Inode)) → lookup nat_cmp q (without_number n inodes) ≡ cond (n == q) None (lookup nat_cmp q inodes)
inode_without n q inodes =
    find-where_key nat_cmp (λ other. not (n == other)) q (λ x tied. ap (λ (k : ℕ). not (n == k)) (sym (same_number q x (ap is_eq tied)))) inodes
    ∙ elim (n == q) as (λ b. cond (not b) (lookup nat_cmp q inodes) None ≡ cond b None (lookup nat_cmp q inodes)) [ true ↦ refl | false ↦ refl ]

pub still_there : (b : Bool) (o : Option Inode) (i : Inode) → cond b None o ≡ Some i → o ≡ Some i
still_there true o i e = cc
still_there false o i e = e

not_gone : (b : Bool) (o : Option Inode) (i : Inode) → b ≡ true → cond b None o ≡ Some i → ⊥
not_gone true o i e is = cc
not_gone false o i e is = cc

pub without_entry-IsWellFormed : (t : Tree) (d : ℕ) (name : List ℕ) (n : ℕ) → IsWellFormed t → entry_number t (record { dir = d; name = name }) ≡ Some n → IsUnentered t n → IsWellFormed (without_entry t d name n)
without_entry-IsWellFormed t d name n well leads unentered =
    elim (names_of (left_of t d name t.inodes) n == 0) as (λ b. (names_of (left_of t d name t.inodes) n == 0) ≡ b
    → IsWellFormed (if b then left_of t d name (without_number n t.inodes) else left_of t d name t.inodes)) [
      | false ↦ λ more. left-IsWellFormed t d name n well leads unentered t.inodes well.inodes_in_order (λ q i e. e) (λ q i other e. e)
          (λ i e. not_zero (names_of (left_of t d name t.inodes) n) more) (leads_on t (record { dir = d; name = name }) well)
      | true ↦ λ none.
          let nothing = none_passes (λ (e : Spot × ℕ). e.1 == n) (without_spot (record { dir = d; name = name }) t.entries) (is_zero (names_of (left_of t d name t.inodes) n) none) in
          left-IsWellFormed t d name n well leads unentered (without_number n t.inodes)
          (from_test _ (is_sorted-where_key nat_cmp _ t.inodes (to_test _ well.inodes_in_order)))
          (λ q i e. still_there (n == q) (inode_of t q) i (sym (inode_without n q t.inodes) ∙ e))
          (λ q i other e. inode_without n q t.inodes ∙ rw (other_test n q other) e)
          (λ i e. absurd (not_gone (n == n) (inode_of t n) i (same_test n) (sym (inode_without n n t.inodes) ∙ e)))
          (All-weaker (λ (e : Spot × ℕ). ((e.1 == n) ≡ false) × IsTrue (is_some (inode_of t e.1))) _
          (λ e p. let i = some_in (inode_of t e.1) p.1 in
          let there : lookup nat_cmp e.1 (without_number n t.inodes) ≡ Some i.0 = inode_without n e.1 t.inodes ∙ rw (other_test n e.1 (λ same. decided_not e.1 n p.0 (sym same))) i.1 in
          ap is_some there)
          _ (All-both _ _ _ nothing (leads_on t (record { dir = d; name = name }) well)))
    ] refl

-- both ways in which an entry may go
pub either_left : (P : Tree → Type 0) (t : Tree) (d : ℕ) (name : List ℕ) (n : ℕ) → P (left_of t d name (without_number n t.inodes)) → P (left_of t d name t.inodes) → P (without_entry t d name n)
either_left P t d name n without with_all =
    elim (names_of (left_of t d name t.inodes) n == 0) as (λ b. P (if b then left_of t d name (without_number n t.inodes) else left_of t d name t.inodes)) [ true ↦ without | false ↦ with_all ]

pub inode-left : (t : Tree) (d : ℕ) (name : List ℕ) (n q : ℕ) → n ≢ q → inode_of (without_entry t d name n) q ≡ inode_of t q
inode-left t d name n q other = either_left (λ u. inode_of u q ≡ inode_of t q) t d name n (inode_without n q t.inodes ∙ rw (other_test n q other) refl) refl

-- nothing stands in what is no directory
pub unentered_node : (t : Tree) (n : ℕ) → IsWellFormed t → is_live_directory t n ≡ false → IsUnentered t n
unentered_node t n well no_directory =
    All-weaker (Stands t) _ (λ e s. λ same. let live : is_live_directory t n ≡ true = subst (λ k. IsTrue (is_live_directory t k)) same s.held in absurd cc) t.entries well.entries

-- nor in an empty directory
pub unentered_directory : (t : Tree) (n : ℕ) → is_empty (names_in t n) ≡ true → IsUnentered t n
unentered_directory t n = by_entries t.entries
  where
    by_entries : (es : List (Spot × ℕ)) → is_empty (map (λ (e : Spot × ℕ). e.0.name) (filter (λ (e : Spot × ℕ). e.0.dir == n) es)) ≡ true → AllByRecursion (λ (e : Spot × ℕ). e.0.dir ≢ n) es
    by_entries [] e = tt
    by_entries (x ∷ es) e =
        elim (x.0.dir == n) as (λ b. (x.0.dir == n) ≡ b
        → is_empty (map (λ (e : Spot × ℕ). e.0.name) (cond b (x ∷ filter (λ (e : Spot × ℕ). e.0.dir == n) es) (filter (λ (e : Spot × ℕ). e.0.dir == n) es))) ≡ true
        → (x.0.dir ≢ n) × AllByRecursion (λ (e : Spot × ℕ). e.0.dir ≢ n) es) [
          | true ↦ λ is none. absurd (omega (arith, is_zero _ none))
          | false ↦ λ is none. (decided_not x.0.dir n is, by_entries es none)
        ] refl e
