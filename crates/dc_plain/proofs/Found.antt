-- What a call that isn't refused has found, and the tree that it leaves.
use Rattle.std.proofs.Common.{◌≡◌, ℕ, ◌≤◌, ◌<◌, ◌^◌, ◌==◌, ◌&&◌, ◌||◌, not, List, Bool, true, false, Option, Some, None, Ok, is_some, IsTrue, refl, ap, sym, ◌∙◌, arith, length, option_map, option_and_then, subst}
use Rattle.std.specs.Prelude.{nat_le}
use Rattle.std.proofs.lemmas.Bool.Decides.{nat_tests}
use Rattle.dc_names.specs.Laws.{PartsAreNamesOrDots}
use Rattle.dc_names.specs.declared.refusal.Refusal.TheVariants.{NotPermitted, NotFound, Busy, Exists, NotDirectory, Invalid, NoSpace, TooManyNames, NotEmpty}
use Rattle.dc_names.specs.declared.limits.TheConstants.{MOST_NAMES}
use Rattle.dc_names.specs.Bytes.{is_empty, is_name}
use Rattle.dc_names.specs.Paths.{Path}
use Rattle.dc_plain.specs.Facts.{Target}
use Rattle.dc_plain.specs.Facts.Label.{Entry}
use Rattle.dc_plain.specs.Resolution.{is_directory}
use Rattle.dc_plain.specs.Trees.{Tree, Inode, inode_of, target_at, entry_number, entry_of, names_of, names_in, kind_of, is_live_directory, is_directory_inode}
use Rattle.dc_plain.specs.Trees.Inode.{Directory, Regular, Symbolic}
use Rattle.dc_plain.specs.Requests.{Answer}
use Rattle.dc_plain.specs.Requests.Answer.{Done, Nothing}
use Rattle.dc_plain.specs.Places.{Where}
use Rattle.dc_names.specs.Lasts.Last.{Name}
use Rattle.dc_names.specs.Lasts.{name_or, name_or_each}
use Rattle.dc_plain.specs.Refusals.{◌>>=◌, where_on, place_on, path_or_fault, present, is_full}
use Rattle.dc_plain.specs.Effects.{with_new, with_entry_for, without_entry}
use Rattle.dc_plain.specs.Plans.{LeadsTo}
use Rattle.dc_plain.specs.Operations.{make, link, unlink, rmdir}
use Rattle.dc_plain.specs.IsWellFormed.{IsWellFormed}
use Rattle.dc_plain.proofs.Made.{free_spot}
use Rattle.dc_plain.proofs.Removed.{IsUnentered, unentered_node, unentered_directory}
use Rattle.dc_plain.proofs.Chains.{after, after_test, named, named_each, is_there, left_with}
use Rattle.dc_plain.proofs.Spotted.{spot_live, spot_named, place_live, path_named}

-- an entry that is found leads to an inode that lives, of the kind that is told
pub record Leads (t : Tree) (d : ℕ) (name : List ℕ) (place : Target) : Type 0 where
  pub target : entry_number t (record { dir = d; name = name }) ≡ Some place.0
  pub inode : Inode
  pub lives : inode_of t place.0 ≡ Some inode
  pub kind : is_directory place ≡ is_directory_inode (Some inode)

pub kind_is : (n : ℕ) (i : Inode) → is_directory (n, kind_of i) ≡ is_directory_inode (Some i)
kind_is n Directory = refl
kind_is n Regular = refl
kind_is n (Symbolic text) = refl

pub entry-leads : (t : Tree) (d : ℕ) (name : List ℕ) (place : Target) → entry_of t d (Entry name) ≡ Some place → Leads t d name place
entry-leads t d name place e = by_target (entry_number t (record { dir = d; name = name })) refl e
  where
    by_inode : (n : ℕ) (i : Option Inode) → entry_number t (record { dir = d; name = name }) ≡ Some n → inode_of t n ≡ i → option_map (λ inode. (n, kind_of inode)) i ≡ Some place → Leads t d name place
    by_inode n None at is e' = cc
    by_inode n (Some i) at is e' =
        let same : (n, kind_of i) ≡ place = cc in
        subst (Leads t d name) same (record { target = at; inode = i; lives = is; kind = kind_is n i })

    by_target : (o : Option ℕ) → entry_number t (record { dir = d; name = name }) ≡ o → option_and_then (target_at t) o ≡ Some place → Leads t d name place
    by_target None at e' = cc
    by_target (Some n) at e' = by_inode n (inode_of t n) at refl e'

pub leads_to : (t : Tree) (d : ℕ) (name : List ℕ) → IsWellFormed t → (found : Option Target) → found ≡ entry_of t d (Entry name) → LeadsTo t d name found
leads_to t d name well None e = free_spot t d name well (ap is_some (sym e))
leads_to t d name well (Some place) e = let leads = entry-leads t d name place (sym e) in leads.target

-- a path ends in a name, to be looked up in this directory
pub record Ends_in (t : Tree) (base : ℕ) (text : List ℕ) (d : ℕ) (name : List ℕ) : Type 0 where
  pub at : Where
  pub spot : where_on t base text ≡ Ok at
  pub dir : at.dir ≡ d
  pub last : at.last ≡ Name name

-- a new inode
pub record Makes (limit : ℕ) (t : Tree) (base : ℕ) (text : List ℕ) (inode : Inode) (u : Tree) : Type 0 where
  pub d : ℕ
  pub name : List ℕ
  pub ends : Ends_in t base text d name
  pub held : IsTrue (is_live_directory t d)
  pub named : IsTrue (is_name name)
  pub free : entry_number t (record { dir = d; name = name }) ≡ None
  pub low : t.next < 2 ^ 63
  pub room : length t.inodes < limit
  pub left : with_new t d name inode ≡ u

-- a further name
pub record Links (t : Tree) (base : ℕ) (new : List ℕ) (u : Tree) : Type 0 where
  pub d : ℕ
  pub name : List ℕ
  pub ends : Ends_in t base new d name
  pub held : IsTrue (is_live_directory t d)
  pub named : IsTrue (is_name name)
  pub free : entry_number t (record { dir = d; name = name }) ≡ None
  pub n : ℕ
  pub inode : Inode
  pub lives : inode_of t n ≡ Some inode
  pub no_directory : is_directory_inode (Some inode) ≡ false
  pub few : names_of t n < MOST_NAMES
  pub left : with_entry_for t d name n ≡ u

-- a name that goes
pub record Takes (t : Tree) (base : ℕ) (text : List ℕ) (u : Tree) : Type 0 where
  pub d : ℕ
  pub name : List ℕ
  pub ends : Ends_in t base text d name
  pub n : ℕ
  pub inode : Inode
  pub leads : entry_number t (record { dir = d; name = name }) ≡ Some n
  pub lives : inode_of t n ≡ Some inode
  pub unentered : IsUnentered t n
  pub left : without_entry t d name n ≡ u

low_next : (limit inodes next : ℕ) → next ≤ 2 ^ 63 → (nat_le limit inodes || next == 2 ^ 63) ≡ false → next < 2 ^ 63
low_next limit inodes next most e = grind (arith, nat_tests)

has_room : (limit inodes next : ℕ) → (nat_le limit inodes || next == 2 ^ 63) ≡ false → inodes < limit
has_room limit inodes next e = grind (arith, nat_tests)

few_by : (n : ℕ) → nat_le MOST_NAMES n ≡ false → n < MOST_NAMES
few_by n e = grind (arith, nat_tests)

unturned : (b : Bool) → not b ≡ false → b ≡ true
unturned true e = refl
unturned false e = cc

-- the place of a path that has no fault
pub spot_of : (t : Tree) (base : ℕ) (text : List ℕ) (path : Path) (at : Where) → path_or_fault text ≡ Ok path → place_on t base path ≡ Ok at → where_on t base text ≡ Ok at
spot_of t base text path at good is = ap (λ r. r >>= λ path. place_on t base path) good ∙ is

pub makes : PartsAreNamesOrDots → (limit : ℕ) (t : Tree) (base : ℕ) (text : List ℕ) (may : Bool) (inode : Inode) (done : Answer × Tree) → IsWellFormed t → make limit t base text may inode ≡ Ok done → Makes limit t base text inode done.1
makes parts limit t base text may inode done well e =
    after (where_on t base text) _ done e (λ at at_is e.
    after (name_or Exists at.last) _ done e (λ name name_is e.
    after_test (is_some (entry_of t at.dir (Entry name))) Exists _ done e (λ free e.
    after_test (at.slash && not may) NotFound _ done e (λ ends e.
    after_test (is_full limit t) NoSpace _ done e (λ room e. record {
      d = at.dir;
      name = name;
      ends = record { at = at; spot = at_is; dir = refl; last = named Exists at.last name name_is };
      held = spot_live t base text at well.root_is at_is;
      named = spot_named parts t base text at name at_is (named Exists at.last name name_is);
      free = free_spot t at.dir name well free;
      low = low_next limit (length t.inodes) t.next well.next_is room;
      room = has_room limit (length t.inodes) t.next room;
      left = left_with (λ u. with_new t at.dir name inode ≡ u) (Done t.next) (with_new t at.dir name inode) done e refl;
    })))))

pub links : PartsAreNamesOrDots → (t : Tree) (base : ℕ) (old new : List ℕ) (done : Answer × Tree) → IsWellFormed t → link t base old new ≡ Ok done → Links t base new done.1
links parts t base old new done well e =
    after (path_or_fault old) _ done e (λ old_path old_good e.
    after (path_or_fault new) _ done e (λ new_path new_good e.
    after (place_on t base old_path) _ done e (λ from from_is e.
    after (place_on t base new_path) _ done e (λ to to_is e.
    after (name_or NotPermitted from.last) _ done e (λ old_name old_is e.
    after (name_or Exists to.last) _ done e (λ new_name new_is e.
    after (present NotFound (entry_of t from.dir (Entry old_name))) _ done e (λ place found e.
    after_test (is_directory place) NotPermitted _ done e (λ no_directory e.
    after_test from.slash NotDirectory _ done e (λ old_ends e.
    after_test (is_some (entry_of t to.dir (Entry new_name))) Exists _ done e (λ free e.
    after_test to.slash NotFound _ done e (λ new_ends e.
    after_test (nat_le MOST_NAMES (names_of t place.0)) TooManyNames _ done e (λ room e.
    let there = entry-leads t from.dir old_name place (is_there NotFound _ place found) in record {
      d = to.dir;
      name = new_name;
      ends = record { at = to; spot = spot_of t base new new_path to new_good to_is; dir = refl; last = named Exists to.last new_name new_is };
      held = place_live t base new_path to well.root_is to_is;
      named = path_named parts t base new new_path to new_name new_good to_is (named Exists to.last new_name new_is);
      free = free_spot t to.dir new_name well free;
      n = place.0;
      inode = there.inode;
      lives = there.lives;
      no_directory = sym there.kind ∙ no_directory;
      few = few_by (names_of t place.0) room;
      left = left_with (λ u. with_entry_for t to.dir new_name place.0 ≡ u) (Done place.0) (with_entry_for t to.dir new_name place.0) done e refl;
    }))))))))))))

pub unlinks : (t : Tree) (base : ℕ) (text : List ℕ) (done : Answer × Tree) → IsWellFormed t → unlink t base text ≡ Ok done → Takes t base text done.1
unlinks t base text done well e =
    after (where_on t base text) _ done e (λ at at_is e.
    after (name_or NotPermitted at.last) _ done e (λ name name_is e.
    after (present NotFound (entry_of t at.dir (Entry name))) _ done e (λ place found e.
    after_test (is_directory place) NotPermitted _ done e (λ no_directory e.
    after_test at.slash NotDirectory _ done e (λ ends e.
    let there = entry-leads t at.dir name place (is_there NotFound _ place found) in record {
      d = at.dir;
      name = name;
      ends = record { at = at; spot = at_is; dir = refl; last = named NotPermitted at.last name name_is };
      n = place.0;
      inode = there.inode;
      leads = there.target;
      lives = there.lives;
      unentered = unentered_node t place.0 well (ap is_directory_inode there.lives ∙ sym there.kind ∙ no_directory);
      left = left_with (λ u. without_entry t at.dir name place.0 ≡ u) Nothing (without_entry t at.dir name place.0) done e refl;
    })))))

pub rmdirs : (t : Tree) (base : ℕ) (text : List ℕ) (done : Answer × Tree) → IsWellFormed t → rmdir t base text ≡ Ok done → Takes t base text done.1
rmdirs t base text done well e =
    after (where_on t base text) _ done e (λ at at_is e.
    after (name_or_each Busy Invalid NotEmpty at.last) _ done e (λ name name_is e.
    after (present NotFound (entry_of t at.dir (Entry name))) _ done e (λ place found e.
    after_test (not (is_directory place)) NotDirectory _ done e (λ dir e.
    after_test (not (is_empty (names_in t place.0))) NotEmpty _ done e (λ empty e.
    let there = entry-leads t at.dir name place (is_there NotFound _ place found) in record {
      d = at.dir;
      name = name;
      ends = record { at = at; spot = at_is; dir = refl; last = named_each Busy Invalid NotEmpty at.last name name_is };
      n = place.0;
      inode = there.inode;
      leads = there.target;
      lives = there.lives;
      unentered = unentered_directory t place.0 (unturned _ empty);
      left = left_with (λ u. without_entry t at.dir name place.0 ≡ u) Nothing (without_entry t at.dir name place.0) done e refl;
    })))))
