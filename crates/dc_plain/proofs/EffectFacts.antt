-- What each effect makes of entries, inodes, holders and counts.
use Rattle.std.proofs.Common.{◌≡◌, ◌≢◌, ℕ, ◌+◌, ◌==◌, ◌&&◌, not, List, Bool, true, false, cond, Some, None, IsTrue, refl, ap, sym, ◌∙◌, arith, is_ok, Ok, Err, if◌then◌else◌}
use Rattle.std.specs.Ordering.{eq_by_cmp}
use Rattle.std.specs.FinMap.Entries.{find-put}
use Rattle.dc_names.specs.Bytes.{is_empty}
use Rattle.dc_names.specs.Paths.{path_in}
use Rattle.dc_plain.specs.Conditions.{HasPath, is_full_directory}
use Rattle.dc_plain.specs.EffectLaws.{NewKeepsWellFormed, FurtherNameKeepsWellFormed, LostNameKeepsWellFormed, NewChanges, FurtherNameChanges, LostNameChanges}
use Rattle.dc_plain.specs.Effects.{without_entry}
use Rattle.dc_plain.specs.IsWellFormed.{IsWellFormed}
use Rattle.dc_plain.specs.Spots.{spot_at}
use Rattle.dc_plain.specs.Trees.{Tree, Spot, Inode, spot_cmp, entry_number, inode_of, holder_of, names_of, names_in, is_directory_inode, is_live_directory, without_number}
use Rattle.dc_plain.specs.Trees.Inode.{Directory, Regular, Symbolic}
use Rattle.dc_plain.proofs.Holders.{other_test, same_test, decided, decided_not}
use Rattle.dc_plain.proofs.Linked.{names_linked, holder_else_linked, with_entry_for-IsWellFormed}
use Rattle.dc_plain.proofs.Made.{IsGood, spots_total, other_number, some_in, inode_new, made, holder_new, holder_kept, one_leads, names_kept, with_new-IsWellFormed}
use Rattle.dc_plain.proofs.Removed.{IsUnentered, left_of, names_left, holder_left, either_left, inode-left, inode_without, unentered_node, unentered_directory, without_entry-IsWellFormed}
use Rattle.dc_plain.proofs.SameFacts.{same_spot, tied}
use Rattle.dc_plain.proofs.Takes.{lookup-take}

-- two names that are not one do not tie
pub apart_by_cmp : (a b : Spot) → a ≢ b → eq_by_cmp spot_cmp a b ≡ false
apart_by_cmp a b other = by_test (eq_by_cmp spot_cmp a b) refl
  where
    by_test : (o : Bool) → eq_by_cmp spot_cmp a b ≡ o → o ≡ false
    by_test false e = refl
    by_test true e = absurd (other (same_spot a b e))

path_good : (inode : Inode) → HasPath inode → IsGood inode
path_good Directory path = tt
path_good Regular path = tt
path_good (Symbolic text) path = ap (λ o. is_ok (elim o [ None ↦ Ok (path_in text) | Some fault ↦ Err fault ])) path

pub new-keeps : NewKeepsWellFormed
new-keeps t d name inode well free can =
    with_new-IsWellFormed t d name inode well free.held free.free (path_good inode can.path) free.named can.low

pub new-changes : NewChanges
new-changes t d name inode well free =
    let found = λ (spot : Spot). find-put spot_cmp spots_total spot (spot_at d name) t.next t.entries in record {
      here = found (spot_at d name) ∙ rw (tied d name) refl;
      elsewhere = λ spot other. found spot ∙ rw (apart_by_cmp spot (spot_at d name) other) refl;
      made = made t d name inode well free.held free.free;
      kept = λ n other. inode_new t d name inode well free.held free.free n ∙ rw (other_number n t.next other) refl;
      held = holder_new t d name inode well free.held free.free;
      still_held = holder_kept t d name inode well free.held free.free;
      named = one_leads t d name inode well free.held free.free;
      still_named = names_kept t d name inode well free.held free.free;
    }

pub further-keeps : FurtherNameKeepsWellFormed
further-keeps t d name n well free can =
    let inode = some_in (inode_of t n) can.lives in
    let node : is_directory_inode (Some inode.0) ≡ false = sym (ap is_directory_inode inode.1) ∙ can.no_directory in
    with_entry_for-IsWellFormed t d name n inode.0 well free.held free.free inode.1 node free.named can.few

pub further-changes : FurtherNameChanges
further-changes t d name n well free =
    let found = λ (spot : Spot). find-put spot_cmp spots_total spot (spot_at d name) n t.entries in
    let counted = names_linked t d name n free.free in record {
      here = found (spot_at d name) ∙ rw (tied d name) refl;
      elsewhere = λ spot other. found spot ∙ rw (apart_by_cmp spot (spot_at d name) other) refl;
      kept = λ q. refl;
      still_held = λ q other. holder_else_linked t d name n free.free q (λ same. other (sym same));
      named = counted n ∙ rw (same_test n) refl;
      still_named = λ q other. counted q ∙ rw (other_test n q (λ same. other (sym same))) (omega arith);
    }

-- nothing stands in what is no directory in which entries stand
pub empty-unentered : (t : Tree) (n : ℕ) → IsWellFormed t → IsTrue (not (is_full_directory t n)) → IsUnentered t n
empty-unentered t n well can =
    elim (is_live_directory t n) as (λ b. is_live_directory t n ≡ b → IsTrue (not (b && not (is_empty (names_in t n)))) → IsUnentered t n) [
      | true ↦ λ is empty. unentered_directory t n (twice (is_empty (names_in t n)) empty)
      | false ↦ λ is none. unentered_node t n well is
    ] refl can
  where
    twice : (b : Bool) → IsTrue (not (not b)) → b ≡ true
    twice true h = refl
    twice false h = cc

pub lost-keeps : LostNameKeepsWellFormed
lost-keeps t d name n well can = without_entry-IsWellFormed t d name n well can.leads (empty-unentered t n well can.empty)

-- whether n goes with its last name
by_last : (t : Tree) (d : ℕ) (name : List ℕ) (n : ℕ) → (names_of (without_entry t d name n) n ≡ 0 → inode_of (without_entry t d name n) n ≡ None)
    × (names_of (without_entry t d name n) n ≢ 0 → inode_of (without_entry t d name n) n ≡ inode_of t n)
by_last t d name n =
    let rest = left_of t d name t.inodes in
    let less = left_of t d name (without_number n t.inodes) in
    elim (names_of rest n == 0) as (λ b. (names_of rest n == 0) ≡ b
    → (names_of (if b then less else rest) n ≡ 0 → inode_of (if b then less else rest) n ≡ None)
    × (names_of (if b then less else rest) n ≢ 0 → inode_of (if b then less else rest) n ≡ inode_of t n)) [
      | true ↦ λ is. (λ none. inode_without n n t.inodes ∙ rw (same_test n) refl, λ some. absurd (some (decided (names_of rest n) 0 is)))
      | false ↦ λ is. (λ none. absurd (decided_not (names_of rest n) 0 is none), λ some. refl)
    ] refl

pub lost-changes : LostNameChanges
lost-changes t d name n well can =
    let free = empty-unentered t n well can.empty in
    let taken = λ (spot : Spot). lookup-take spot_cmp spots_total (spot_at d name) spot t.entries in
    let last = by_last t d name n in
    let counted : (q : ℕ) → names_of (without_entry t d name n) q + cond (n == q) 1 0 ≡ names_of t q = λ q.
    either_left (λ u. names_of u q + cond (n == q) 1 0 ≡ names_of t q) t d name n (names_left t d name n well can.leads free (without_number n t.inodes) q) (names_left t d name n well can.leads free t.inodes q) in
    let none : entry_number (left_of t d name t.inodes) (spot_at d name) ≡ None = taken (spot_at d name) ∙ rw (tied d name) refl in record {
      gone = either_left (λ u. entry_number u (spot_at d name) ≡ None) t d name n none none;
      elsewhere = λ spot other.
          let same : entry_number (left_of t d name t.inodes) spot ≡ entry_number t spot = taken spot ∙ rw (apart_by_cmp (spot_at d name) spot (λ is. other (sym is))) refl in
          either_left (λ u. entry_number u spot ≡ entry_number t spot) t d name n same same;
      last = last.0;
      not_last = last.1;
      kept = λ q other. inode-left t d name n q (λ same. other (sym same));
      still_held = λ q other. either_left (λ u. holder_of u q ≡ holder_of t q) t d name n
          (holder_left t d name n well can.leads free (without_number n t.inodes) q (λ same. other (sym same)))
          (holder_left t d name n well can.leads free t.inodes q (λ same. other (sym same)));
      named = sym (ap (λ b. names_of (without_entry t d name n) n + cond b 1 0) (same_test n)) ∙ counted n;
      still_named = λ q other.
          let same : names_of (without_entry t d name n) q + 0 ≡ names_of t q =
          sym (ap (λ b. names_of (without_entry t d name n) q + cond b 1 0) (other_test n q (λ is. other (sym is)))) ∙ counted q in
          omega arith;
    }
