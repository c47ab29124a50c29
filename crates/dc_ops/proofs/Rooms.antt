-- If an entry may be added, there is room for it.
use Rattle.std.proofs.Common.{◌≡◌, ℕ, ◌<◌, ◌≤◌, ◌||◌, ◌==◌, nat_le, length, Bool, true, false, Option, Some, None, is_some, option_map, IsTrue, refl, ap, sym, ◌∙◌, arith}
use Rattle.std.proofs.lemmas.Bool.Decides.{nat_tests}
use Rattle.dc_names.specs.declared.kind.Kind.TheVariants.{Dir}
use Rattle.dc_plain.specs.Facts.{Target}
use Rattle.dc_plain.specs.Resolution.{is_directory}
use Rattle.dc_plain.specs.Trees.{Tree, Inode, inode_of, target_at, kind_of, names_of, is_directory_inode}
use Rattle.dc_plain.specs.Trees.Inode.{Directory, Regular, Symbolic}
use Rattle.dc_plain.specs.Refusals.{is_full}
use Rattle.dc_names.specs.declared.limits.TheConstants.{MOST_NAMES, NUMBER_LIMIT}
use Rattle.dc_plain.specs.Conditions.{CanBeNamed}
use Rattle.dc_store.specs.Added.{CanAdd, number_added}
use Rattle.dc_store.specs.declared.store.New as rust_new
use Rattle.dc_store.specs.declared.store.New.TheVariants as news
use Rattle.dc_ops.specs.Makes.{MakesInode}

or_second : (a b : Bool) → (a || b) ≡ false → b ≡ false
or_second true b e = cc
or_second false b e = e

other_number : (m n : ℕ) → m ≤ n → (m == n) ≡ false → m < n
other_number m n le e = grind (arith, nat_tests)

-- a tree that isn't full has a number left
low : (limit : ℕ) (t : Tree) → t.next ≤ NUMBER_LIMIT → is_full limit t ≡ false → t.next < NUMBER_LIMIT
low limit t bound e = other_number t.next NUMBER_LIMIT bound (or_second (nat_le limit (length t.inodes)) (t.next == NUMBER_LIMIT) e)

pub room : (limit : ℕ) (t : Tree) (new : rust_new.New) → t.next ≤ NUMBER_LIMIT → is_full limit t ≡ false → MakesInode new → CanAdd t new
room limit t news.Dir bound e makes = low limit t bound e
room limit t news.File bound e makes = low limit t bound e
room limit t (news.Link text) bound e makes = low limit t bound e
room limit t (news.Same n) bound e makes = absurd makes

-- a new inode gets the next number
pub number_made : (t : Tree) (new : rust_new.New) (n : ℕ) → n ≡ t.next → MakesInode new → n ≡ number_added t new
number_made t news.Dir n e makes = e
number_made t news.File n e makes = e
number_made t (news.Link text) n e makes = e
number_made t (news.Same m) n e makes = absurd makes

-- a file or link with fewer names than the most may have one more
few_by : (n : ℕ) → nat_le MOST_NAMES n ≡ false → n < MOST_NAMES
few_by n e = grind (arith, nat_tests)

lives_by : (t : Tree) (n : ℕ) (o : Option Inode) (place : Target) → option_map (λ inode. (n, kind_of inode)) o ≡ Some place → is_directory place ≡ false
    → IsTrue (is_some o) × (is_directory_inode o ≡ false)
lives_by t n None place e file = absurd cc
lives_by t n (Some Directory) place e file = let same : (n, Dir) ≡ place = cc in let no : is_directory (n, Dir) ≡ false = ap is_directory same ∙ file in absurd cc
lives_by t n (Some Regular) place e file = (refl, refl)
lives_by t n (Some (Symbolic text)) place e file = (refl, refl)

pub may_be_named : (t : Tree) (place : Target) → target_at t place.0 ≡ Some place → is_directory place ≡ false → nat_le MOST_NAMES (names_of t place.0) ≡ false → CanBeNamed t place.0
may_be_named t place lives file few =
    let by = lives_by t place.0 (inode_of t place.0) place lives file in
    record { lives = by.0; no_directory = by.1; few = few_by (names_of t place.0) few }

-- by the tests that a link passes
pub may_link : (t : Tree) (place : Target) {directory many : Bool} → target_at t place.0 ≡ Some place → directory ≡ is_directory place → directory ≡ false → many ≡ nat_le MOST_NAMES (names_of t place.0) → many ≡ false → CanBeNamed t place.0
may_link t place lives kind file count few = may_be_named t place lives (sym kind ∙ file) (sym count ∙ few)
