-- The one entry of a directory: it is found in the directory above, and no other leads there.
use Rattle.std.proofs.Common.{◌≡◌, ◌≢◌, ℕ, ◌+◌, ◌≤◌, ◌==◌, ◌&&◌, List, [], ◌∷◌, Bool, true, false, cond, not, Option, Some, None, find, option_map, option_and_then, IsTrue, T, refl, ap, sym, ◌∙◌, subst, arith}
use Rattle.std.proofs.lemmas.Bool.Decides.{nat_tests}
use Rattle.std.specs.Cmp.{tied_itself}
use Rattle.std.specs.FinMap.Entries.{below_all, is_sorted}
use Rattle.std.specs.FinMap.Entries.{find as lookup}
use Rattle.std.specs.List.{AllByRecursion}
use Rattle.std.specs.Ordering.{eq_by_cmp, is_eq, is_lt, ordering_reverse}
use Rattle.std.specs.declared.cmp.Ordering.{Ordering}
use Rattle.std.specs.declared.cmp.Ordering.TheVariants.{Less, Equal, Greater}
use Rattle.dc_plain.specs.Facts.{Target}
use Rattle.dc_plain.specs.Facts.Label.{Parent}
use Rattle.dc_plain.specs.IsWellFormed.{IsWellFormed}
use Rattle.dc_plain.specs.LivingLaws.{DirectoriesHaveOneName, HoldersAreLiveDirectories}
use Rattle.dc_plain.specs.Resolution.{root}
use Rattle.dc_plain.specs.Spots.{spot_at}
use Rattle.dc_plain.specs.Trees.{Tree, Spot, Inode, spot_cmp, how_many, entry_number, entry_of, holder_of, inode_of, is_live_directory, kind_of, target_at}
use Rattle.dc_store.proofs.Decides.{decided, is_directory_in, other_test, to_test}
use Rattle.dc_store.proofs.Spots.{same_spot, spots_total}

-- what holds of each entry holds of one that is found
pub found_has : (P : Spot × ℕ → Type 0) (es : List (Spot × ℕ)) → AllByRecursion P es → (q : Spot) (n : ℕ) → lookup spot_cmp q es ≡ Some n → P (q, n)
found_has P [] all q n e = absurd cc
found_has P (x ∷ xs) all q n e = elim (eq_by_cmp spot_cmp q x.0) as (λ b. eq_by_cmp spot_cmp q x.0 ≡ b → cond b (Some x.1) (lookup spot_cmp q xs) ≡ Some n → P (q, n)) [
  | true ↦ λ tied is. let number : x.1 ≡ n = cc in subst (λ (s : Spot). P (s, n)) (sym (same_spot q x.0 tied)) (subst (λ (k : ℕ). P (x.0, k)) number all.0)
  | false ↦ λ other is. found_has P xs all.1 q n is
] refl e

pub same_test : (m n : ℕ) → m ≡ n → (m == n) ≡ true
same_test m n e = grind (arith, nat_tests)

one_here : (m n : ℕ) → m ≡ n → ◌≡◌ {A = ℕ} (cond (m == n) 1 0) 1
one_here m n e = ap (λ b. cond {A = ℕ} b 1 0) (same_test m n e)

-- if an entry is found, at least one leads where it does
leads_one : (n : ℕ) (es : List (Spot × ℕ)) (q : Spot) → lookup spot_cmp q es ≡ Some n → 1 ≤ how_many (λ (e : Spot × ℕ). e.1 == n) es
leads_one n [] q e = absurd cc
leads_one n (x ∷ xs) q e = elim (eq_by_cmp spot_cmp q x.0) as (λ b. cond b (Some x.1) (lookup spot_cmp q xs) ≡ Some n → 1 ≤ cond (x.1 == n) 1 0 + how_many (λ (e : Spot × ℕ). e.1 == n) xs) [
  | true ↦ λ is. let number : x.1 ≡ n = cc in let here = one_here x.1 n number in omega (arith, here)
  | false ↦ λ is. let later = leads_one n xs q is in omega (arith, later)
] e

two_lead : (n : ℕ) (x : Spot × ℕ) (xs : List (Spot × ℕ)) (q : Spot) → cond (x.1 == n) 1 0 + how_many (λ (e : Spot × ℕ). e.1 == n) xs ≤ 1 → x.1 ≡ n → lookup spot_cmp q xs ≡ Some n → ⊥
two_lead n x xs q few is e =
    let here = one_here x.1 n is in
    let later = leads_one n xs q e in
    omega (arith, few, here, later)

one_by : (n : ℕ) (x : Spot × ℕ) (xs : List (Spot × ℕ)) → cond (x.1 == n) 1 0 + how_many (λ (e : Spot × ℕ). e.1 == n) xs ≤ 1 → (p q : Spot) (a b : Bool) → eq_by_cmp spot_cmp p x.0 ≡ a → eq_by_cmp spot_cmp q x.0 ≡ b
    → cond a (Some x.1) (lookup spot_cmp p xs) ≡ Some n → cond b (Some x.1) (lookup spot_cmp q xs) ≡ Some n → (lookup spot_cmp p xs ≡ Some n → lookup spot_cmp q xs ≡ Some n → p ≡ q) → p ≡ q
one_by n x xs few p q true true one other e f later = same_spot p x.0 one ∙ sym (same_spot q x.0 other)
one_by n x xs few p q true false one other e f later = let is : x.1 ≡ n = cc in absurd (two_lead n x xs q few is f)
one_by n x xs few p q false true one other e f later = let is : x.1 ≡ n = cc in absurd (two_lead n x xs p few is e)
one_by n x xs few p q false false one other e f later = later e f

-- if no more than one leads there, two that are found are one
pub one_spot : (n : ℕ) (es : List (Spot × ℕ)) → how_many (λ (e : Spot × ℕ). e.1 == n) es ≤ 1 → (p q : Spot) → lookup spot_cmp p es ≡ Some n → lookup spot_cmp q es ≡ Some n → p ≡ q
one_spot n [] few p q e f = absurd cc
one_spot n (x ∷ xs) few p q e f =
    let whole : cond (x.1 == n) 1 0 + how_many (λ (e : Spot × ℕ). e.1 == n) xs ≤ 1 = few in
    let fewer : how_many (λ (e : Spot × ℕ). e.1 == n) xs ≤ 1 = omega (arith, whole) in
    one_by n x xs whole p q (eq_by_cmp spot_cmp p x.0) (eq_by_cmp spot_cmp q x.0) refl refl e f (λ e' f'. one_spot n xs fewer p q e' f')

and_parts : (a b : Bool) → T (a && b) → T a × T b
and_parts true b h = (tt, h)
and_parts false b h = absurd h

reversed : (o : Ordering) → T (is_lt o) → is_eq (ordering_reverse o) ≡ false
reversed Less l = refl
reversed Equal l = absurd l
reversed Greater l = absurd l

not_tied : (a b : Spot) → T (is_lt (spot_cmp a b)) → eq_by_cmp spot_cmp b a ≡ false
not_tied a b l = ap is_eq (spots_total.antisymm b a) ∙ reversed (spot_cmp a b) l

module _ (p : Spot × ℕ → Bool) where
  apart : (k : Spot) (es : List (Spot × ℕ)) → T (below_all spot_cmp k es) → (e : Spot × ℕ) → find p es ≡ Some e → eq_by_cmp spot_cmp e.0 k ≡ false
  apart k [] below e is = absurd cc
  apart k (x ∷ xs) below e is =
      let parts = and_parts (is_lt (spot_cmp k x.0)) (below_all spot_cmp k xs) below in
      elim (p x) as (λ b. cond b (Some x) (find p xs) ≡ Some e → eq_by_cmp spot_cmp e.0 k ≡ false) [
        | true ↦ λ here. let same : x ≡ e = cc in subst (λ (y : Spot × ℕ). eq_by_cmp spot_cmp y.0 k ≡ false) same (not_tied k x.0 parts.0)
        | false ↦ λ later. apart k xs parts.1 e later
      ] is

  -- the first entry that passes is found under its name
  first_found : (es : List (Spot × ℕ)) → T (is_sorted spot_cmp es) → (e : Spot × ℕ) → find p es ≡ Some e → lookup spot_cmp e.0 es ≡ Some e.1
  first_found [] sorted e is = absurd cc
  first_found (x ∷ xs) sorted e is =
      let parts = and_parts (below_all spot_cmp x.0 xs) (is_sorted spot_cmp xs) sorted in
      elim (p x) as (λ b. cond b (Some x) (find p xs) ≡ Some e → lookup spot_cmp e.0 (x ∷ xs) ≡ Some e.1) [
        | true ↦ λ here. let same : x ≡ e = cc in subst (λ (y : Spot × ℕ). lookup spot_cmp y.0 (x ∷ xs) ≡ Some y.1) same (ap (λ b. cond b (Some x.1) (lookup spot_cmp x.0 xs)) (ap is_eq (tied_itself spots_total x.0)))
        | false ↦ λ later. ap (λ b. cond b (Some x.1) (lookup spot_cmp e.0 xs)) (apart x.0 xs parts.0 e later) ∙ first_found xs parts.1 e later
      ] is

  first_passes : (es : List (Spot × ℕ)) (e : Spot × ℕ) → find p es ≡ Some e → p e ≡ true
  first_passes [] e is = absurd cc
  first_passes (x ∷ xs) e is = elim (p x) as (λ b. p x ≡ b → cond b (Some x) (find p xs) ≡ Some e → p e ≡ true) [
    | true ↦ λ passes here. let same : x ≡ e = cc in subst (λ (y : Spot × ℕ). p y ≡ true) same passes
    | false ↦ λ fails later. first_passes xs e later
  ] refl is

-- where a directory other than the root stands: its name leads there in the directory that its dot-dot leads to
pub record IsHeld (t : Tree) (n : ℕ) : Type 0 where
  pub dir : ℕ
  pub name : List ℕ
  pub leads : entry_number t (spot_at dir name) ≡ Some n
  pub above : option_map (λ (place : Target). place.0) (entry_of t n Parent) ≡ Some dir

module _ (t : Tree) (well : IsWellFormed t) (n : ℕ) where
  in_holder : (up : ℕ) → holder_of t n ≡ Some up → (name : List ℕ) × (entry_number t (spot_at up name) ≡ Some n)
  in_holder up held = by_entry (find (λ (e : Spot × ℕ). e.1 == n) t.entries) refl held
    where
      by_entry : (o : Option (Spot × ℕ)) → find (λ (e : Spot × ℕ). e.1 == n) t.entries ≡ o → option_map (λ (e : Spot × ℕ). e.0.dir) o ≡ Some up → (name : List ℕ) × (entry_number t (spot_at up name) ≡ Some n)
      by_entry None is held' = absurd cc
      by_entry (Some e) is held' =
          let same : e.0.dir ≡ up = cc in
          let number : e.1 ≡ n = decided e.1 n (first_passes (λ (e : Spot × ℕ). e.1 == n) t.entries e is) in
          (e.0.name, subst (λ (d : ℕ). entry_number t (spot_at d e.0.name) ≡ Some n) same (first_found (λ (e : Spot × ℕ). e.1 == n) t.entries (to_test _ well.entries_in_order) e is ∙ ap Some number))

  module _ (names : DirectoriesHaveOneName) (holders : HoldersAreLiveDirectories) where
    pub held_above : n ≢ 1 → IsTrue (is_live_directory t n) → IsHeld t n
    held_above other live =
        let (up, held) = (names t n well live other).held in
        let lives = is_directory_in (inode_of t up) (holders t n up well held) in
        let (name, leads) = in_holder up held in
        record {
          dir = up;
          name = name;
          leads = leads;
          above = ap (λ b. option_map (λ (place : Target). place.0) (cond (not b) None (cond (n == 1) (Some root) (option_and_then (target_at t) (holder_of t n))))) live
              ∙ ap (λ b. option_map (λ (place : Target). place.0) (cond b (Some root) (option_and_then (target_at t) (holder_of t n)))) (other_test n 1 other)
              ∙ ap (λ (o : Option ℕ). option_map (λ (place : Target). place.0) (option_and_then (target_at t) o)) held
              ∙ ap (λ (o : Option Inode). option_map (λ (place : Target). place.0) (option_map (λ (inode : Inode). (up, kind_of inode)) o)) lives;
        }
