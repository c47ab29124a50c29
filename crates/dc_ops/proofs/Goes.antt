-- What goes with its last name, and what a count says by its kind.
use Rattle.std.proofs.Common.{◌≡◌, ◌≢◌, ℕ, ◌≤◌, ◌==◌, List, Bool, true, false, Option, Some, None, Ok, option_and_then, refl, ap, sym, ◌∙◌, arith, option_map, subst, cond, if◌then◌else◌, [], ◌∷◌, ◌+◌}
use Rattle.dc_plain.specs.Facts.{Target}
use Rattle.dc_plain.specs.Resolution.{is_directory}
use Rattle.dc_plain.specs.TouchedKeys.{keys_gone, keys_at, own_keys}
use Rattle.std.specs.Bool.{then_some}
use Rattle.std.specs.Ordering.{eq_by_cmp}
use Rattle.std.specs.FinMap.Entries.{find as lookup}
use Rattle.std.proofs.lemmas.Bool.{eq-eqb}
use Rattle.dc_plain.specs.Trees.{Tree, Spot, spot_cmp, how_many, entry_number, Inode, inode_of, target_at, kind_of, names_of}
use Rattle.dc_plain.specs.Trees.Inode.{Directory, Regular, Symbolic}
use Rattle.dc_plain.specs.IsWellFormed.{IsWellFormed}
use Rattle.dc_plain.specs.Reads.{count_at, stat}
use Rattle.dc_plain.specs.declared.call.Follow.TheVariants as follow
use Rattle.dc_plain.specs.Refusals.{walk_on, ◌>>=◌}
use Rattle.dc_plain.specs.Requests.Answer.{Counted}
use Rattle.dc_ops.specs.Reads.{answered}
use Rattle.dc_store.specs.Counts.{count_of}
use Rattle.dc_plain.specs.KeysShown.{keys_in}
use Rattle.dc_plain.specs.declared.key.Key as rust_key

-- by the inode of a place
pub by_inode : (P : Target → Option Inode → Type 0) (n : ℕ) (o : Option Inode) (place : Target) → option_map (λ inode. (n, kind_of inode)) o ≡ Some place → ((i : Inode) → P (n, kind_of i) (Some i)) → P place o
by_inode P n None place e so = absurd cc
by_inode P n (Some i) place e so = let same : (n, kind_of i) ≡ place = cc in subst (λ p. P p (Some i)) same (so i)

-- the key of its own that goes with a last name
keys_of_target : (t : Tree) (target : Target) → target_at t target.0 ≡ Some target → keys_at target.0 (inode_of t target.0) ≡ own_keys target.0 target.1
keys_of_target t target lives = by_inode (λ p o. keys_at p.0 o ≡ own_keys p.0 p.1) target.0 (inode_of t target.0) target lives (λ i. refl)

pub lost_if : (t : Tree) (target : Target) → target_at t target.0 ≡ Some target → (key : rust_key.Key) → keys_in (Some key) ≡ own_keys target.0 target.1 → (one : Bool) → one ≡ (names_of t target.0 == 1)
    → keys_in (then_some one key) ≡ keys_gone t target.0
lost_if t target lives key own true one = own ∙ sym (keys_of_target t target lives) ∙ rw (← one) refl
lost_if t target lives key own false one = rw (← one) refl

-- what has no key of its own loses none
pub lost_none : (t : Tree) (target : Target) → target_at t target.0 ≡ Some target → [] ≡ own_keys target.0 target.1 → [] ≡ keys_gone t target.0
lost_none t target lives own = by (names_of t target.0 == 1)
  where
    by : (one : Bool) → [] ≡ (if one then keys_at target.0 (inode_of t target.0) else [])
    by true = own ∙ sym (keys_of_target t target lives)
    by false = refl

-- a directory that has a name has one alone
is_root : (t : Tree) (n : ℕ) → IsWellFormed t → 1 ≤ names_of t n → n ≢ 1
is_root t n well named same = let one : 1 ≤ names_of t 1 = subst (λ k. 1 ≤ names_of t k) same named in let none = well.no_entry_leads_to_root in absurd (omega arith)

directory_lives : (t : Tree) (place : Target) → target_at t place.0 ≡ Some place → is_directory place ≡ true → inode_of t place.0 ≡ Some Directory
directory_lives t place lives is = by_inode (λ p o. is_directory p ≡ true → o ≡ Some Directory) place.0 (inode_of t place.0) place lives by_kind is
  where
    by_kind : (i : Inode) → is_directory (place.0, kind_of i) ≡ true → Some i ≡ Some Directory
    by_kind Directory e = refl
    by_kind Regular e = absurd cc
    by_kind (Symbolic text) e = absurd cc

pub single : (t : Tree) (place : Target) → IsWellFormed t → target_at t place.0 ≡ Some place → 1 ≤ names_of t place.0 → is_directory place ≡ true → (names_of t place.0 == 1) ≡ true
single t place well lives named is =
    let alive = well.inodes place.0 Directory (directory_lives t place lives is) in rw (alive.reached.0 (is_root t place.0 well named)) refl

-- what an entry leads to has a name
pub named_by : (spot : Spot) (n : ℕ) (es : List (Spot × ℕ)) → lookup spot_cmp spot es ≡ Some n → 1 ≤ how_many (λ e. e.1 == n) es
named_by spot n [] e = absurd cc
named_by spot n (x ∷ xs) e =
    elim (eq_by_cmp spot_cmp spot x.0) as (λ b. cond b (Some x.1) (lookup spot_cmp spot xs) ≡ Some n → 1 ≤ (if x.1 == n then 1 else 0) + how_many (λ e. e.1 == n) xs) [
      | true ↦ λ is. let same : x.1 ≡ n = cc in let met : (x.1 == n) ≡ true = rw same (eq-eqb n n refl) in rw met (omega arith)
      | false ↦ λ is. let rest = named_by spot n xs is in omega arith
    ] e

-- what a stat answers of a place that lives
pub stat_told : (t : Tree) (base : ℕ) (text : List ℕ) (place : Target) (count : ℕ) → walk_on t base text follow.Yes ≡ Ok place → target_at t place.0 ≡ Some place → count ≡ count_of t place.0
    → Counted place.0 place.1 count ≡ answered (stat t base text)
stat_told t base text place count found lives is =
    let told : count_of t place.0 ≡ count_at t place = rw lives refl in
    ap (Counted place.0 place.1) (is ∙ told) ∙ sym (ap (λ r. answered (r >>= λ place. Ok (Counted place.0 place.1 (count_at t place)))) found)

-- a name that leads to what doesn't live leads nowhere
pub unheld : (t : Tree) (spot : Spot) (n : ℕ) → entry_number t spot ≡ Some n → None ≡ option_map kind_of (inode_of t n) → option_and_then (target_at t) (entry_number t spot) ≡ None
unheld t spot n leads dead = ap (option_and_then (target_at t)) leads ∙ by_node (inode_of t n) dead
  where
    by_node : (o : Option Inode) → None ≡ option_map kind_of o → ◌≡◌ {A = Option Target} (option_map (λ inode. (n, kind_of inode)) o) None
    by_node None e = refl
    by_node (Some i) e = absurd cc
