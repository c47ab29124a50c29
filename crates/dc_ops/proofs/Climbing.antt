-- The way up from a directory: the names that were passed are the last of each path to it.
use Rattle.std.proofs.Common.{◌≡◌, ◌≢◌, ℕ, suc, ◌+◌, ◌-◌, ◌≤◌, ◌<◌, List, [], ◌∷◌, ◌++◌, length, drop, take, slice_set, Option, Some, None, option_map, option_and_then, true, false, IfNone, IsTrue, refl, ap, sym, ◌∙◌, append_assoc, subst, arith, length-drop}
use Rattle.std.proofs.lemmas.Grind.{drop-set_at}
use Rattle.std.proofs.lemmas.List.{append-nil, drop_all, drop_at, length-append, length-take-le}
use Rattle.dc_names.specs.Bytes.{is_name}
use Rattle.dc_names.specs.declared.kind.Kind.{Kind}
use Rattle.dc_names.specs.declared.kind.Kind.TheVariants.{Dir, File, Link}
use Rattle.dc_names.specs.declared.limits.TheConstants.{PATH_MAX}
use Rattle.dc_plain.specs.Facts.{Target}
use Rattle.dc_plain.specs.Facts.Label.{Entry}
use Rattle.dc_plain.specs.Spots.{spot_at}
use Rattle.dc_plain.specs.Trees.{Inode, Spot, Tree, entry_number, entry_of, inode_of, is_directory_inode, is_live_directory, kind_of, target_at}
use Rattle.dc_plain.specs.Trees.Inode.{Directory, Regular, Symbolic}
use Rattle.dc_ops.specs.Whereabouts.{IsPathOf, IsSoFar, LeadTo, path_by, spelled}
use Rattle.dc_ops.proofs.SpelledNames.{length_first, length_spelled}

-- the directory's number, and what is known of the way from it
pub record HasClimbed (t : Tree) (n at start : ℕ) (buffer : List ℕ) : Type 0 where
  pub so_far : IsSoFar t n at start buffer
  pub live : IsTrue (is_live_directory t at)
  pub only : (names : List (List ℕ)) → LeadTo t 1 names n → (front : List (List ℕ)) × (names ≡ front ++ so_far.names) × LeadTo t 1 front at

pub begun : (t : Tree) (n : ℕ) (buffer : List ℕ) → IsTrue (is_live_directory t n) → length buffer ≡ PATH_MAX → HasClimbed t n n PATH_MAX buffer
begun t n buffer live whole = record {
  so_far = record {
    names = [];
    named = tt;
    leads = refl;
    bytes = drop_all PATH_MAX buffer (omega (arith, whole));
    within = omega arith;
    whole = whole;
  };
  live = live;
  only = λ names leads. (names, sym (append-nil names), leads);
}

directory_in : (o : Option Inode) → is_directory_inode o ≡ true → o ≡ Some Directory
directory_in None e = cc
directory_in (Some Directory) e = refl
directory_in (Some Regular) e = cc
directory_in (Some (Symbolic text)) e = cc

-- an entry that leads to a live directory is told to lead there, to a directory
leads_so : (t : Tree) (up n : ℕ) (name : List ℕ) → entry_number t (spot_at up name) ≡ Some n → IsTrue (is_live_directory t n) → entry_of t up (Entry name) ≡ Some (n, Dir)
leads_so t up n name found live =
    ap (λ (o : Option ℕ). option_and_then (target_at t) o) found
    ∙ ap (λ (o : Option Inode). option_map (λ (inode : Inode). (n, kind_of inode)) o) (directory_in (inode_of t n) live)

abbrev with_kind : ℕ → Inode → Target
with_kind n inode = (n, kind_of inode)

abbrev a_directory : ℕ → Target
a_directory n = (n, Dir)

number_in : (k n : ℕ) (i : Option Inode) → option_map (with_kind k) i ≡ Some (a_directory n) → Some k ≡ Some n
number_in k n None e = absurd cc
number_in k n (Some inode) e = let same : with_kind k inode ≡ a_directory n = cc in ap (λ (p : Target). Some p.0) same

number_by : (t : Tree) (o : Option ℕ) (n : ℕ) → option_and_then (target_at t) o ≡ Some (a_directory n) → o ≡ Some n
number_by t None n e = absurd cc
number_by t (Some k) n e = number_in k n (inode_of t k) e

-- names that lead somewhere are none, or have a last one
data LastStep (t : Tree) (d n : ℕ) (names : List (List ℕ)) : Type 0 where
  Here : names ≡ [] → d ≡ n → LastStep t d n names
  There : (front : List (List ℕ)) (name : List ℕ) (up : ℕ) → names ≡ front ++ name ∷ [] → LeadTo t d front up → entry_of t up (Entry name) ≡ Some (n, Dir) → LastStep t d n names

last_of : (t : Tree) (d n : ℕ) (names : List (List ℕ)) → LeadTo t d names n → LastStep t d n names
last_of t d n [] is = Here refl is
last_of t d n (name ∷ names) (e, found, rest) = by (last_of t e n names rest)
  where
    by : LastStep t e n names → LastStep t d n (name ∷ names)
    by (Here none same) = There [] name d (ap (λ (ns : List (List ℕ)). name ∷ ns) none) refl (found ∙ ap (λ (k : ℕ). Some (k, Dir)) same)
    by (There front last up is leads leads_on) = There (name ∷ front) last up (ap (λ (ns : List (List ℕ)). name ∷ ns) is) (e, found, leads) leads_on

module _ (t : Tree) (n at start : ℕ) (buffer : List ℕ) (now : HasClimbed t n at start buffer) (below : at ≢ 1) (up : ℕ) (name : List ℕ)
    (leads : entry_number t (spot_at up name) ≡ Some at) (alone : (spot : Spot) → entry_number t spot ≡ Some at → spot ≡ spot_at up name) where
  -- the last name of each path to where one is is the one that was found
  last_is : (front : List (List ℕ)) → LeadTo t 1 front at → (before : List (List ℕ)) × (front ≡ before ++ name ∷ []) × LeadTo t 1 before up
  last_is front is = by (last_of t 1 at front is)
    where
      by : LastStep t 1 at front → (before : List (List ℕ)) × (front ≡ before ++ name ∷ []) × LeadTo t 1 before up
      by (Here none same) = absurd (below (sym same))
      by (There before last other ends leads' found) =
          let same : spot_at other last ≡ spot_at up name = alone (spot_at other last) (number_by t (entry_number t (spot_at other last)) at found) in
          (before, ends ∙ ap (λ (s : Spot). before ++ s.name ∷ []) same, subst (λ (s : Spot). LeadTo t 1 before s.dir) same leads')

  pub further : (names : List (List ℕ)) → LeadTo t 1 names n → (front : List (List ℕ)) × (names ≡ front ++ name ∷ now.so_far.names) × LeadTo t 1 front up
  further names is =
      let (front, ends, leads') = now.only names is in
      let (before, last, rest) = last_is front leads' in
      (before, ends ∙ ap (λ (f : List (List ℕ)). f ++ now.so_far.names) last ∙ append_assoc before (name ∷ []) now.so_far.names, rest)

  -- one name on
  pub climbed : IsTrue (is_live_directory t up) → IsTrue (is_name name) → (from : ℕ) (more : List ℕ) → drop from more ≡ 47 ∷ (name ++ drop start buffer) → from + 1 + length name ≡ start → length more ≡ length buffer → HasClimbed t n up from more
  climbed live is from more put before same = record {
    so_far = record {
      names = name ∷ now.so_far.names;
      named = (is, now.so_far.named);
      leads = (at, leads_so t up at name leads now.live, now.so_far.leads);
      bytes = put ∙ ap (λ (bytes : List ℕ). 47 ∷ (name ++ bytes)) now.so_far.bytes;
      within = let w = now.so_far.within in omega (arith, before, w);
      whole = same ∙ now.so_far.whole;
    };
    live = live;
    only = further;
  }

  -- if the name has no room, no path has
  pub too_long : start < 1 + length name → (path : List ℕ) → IsPathOf t n path → PATH_MAX < length path
  too_long full path is =
      let (front, ends, rest) = further is.names is.leads in
      let long = length_spelled front (name ∷ now.so_far.names) in
      let first = length_first name now.so_far.names in
      let written : length (spelled now.so_far.names) ≡ length buffer - start = ap length (sym now.so_far.bytes) ∙ length-drop start buffer in
      let whole = now.so_far.whole in
      let within = now.so_far.within in
      let spelled_whole : length path ≡ length (spelled (front ++ name ∷ now.so_far.names)) = ap length (is.bytes ∙ ap path_by ends ∙ by_some front) in
      omega (arith, long, first, written, whole, within, spelled_whole, full)
    where
      by_some : (front : List (List ℕ)) → path_by (front ++ name ∷ now.so_far.names) ≡ spelled (front ++ name ∷ now.so_far.names)
      by_some [] = refl
      by_some (first ∷ front) = refl

-- a slash and a name, written before a place
pub put_so : (bytes between after : List ℕ) (start place : ℕ) (name : List ℕ) → start + 1 + length name ≡ place → place ≤ length bytes
    → between ≡ take (start + 1) bytes ++ name ++ drop (start + 1 + length name) bytes
    → after ≡ take start between ++ (47 ∷ []) ++ drop (start + 1) between → drop start after ≡ 47 ∷ (name ++ drop place bytes)
put_so bytes between after start place name is within first second =
    let rest : List ℕ = drop (start + 1 + length name) bytes in
    let front : length (take (start + 1) bytes) ≡ start + 1 = length-take-le (start + 1) bytes (omega (arith, is, within)) in
    let one : between ≡ take (start + 1) bytes ++ (name ++ rest) = first ∙ append_assoc (take (start + 1) bytes) name rest in
    let long : length between ≡ start + 1 + length (name ++ rest) = ap length one ∙ length-append (take (start + 1) bytes) (name ++ rest) ∙ ap (λ (k : ℕ). k + length (name ++ rest)) front in
    let behind : drop (start + 1) between ≡ name ++ drop place bytes =
    ap (drop (start + 1)) one ∙ drop_at (take (start + 1) bytes) (name ++ rest) (start + 1) front ∙ ap (λ (k : ℕ). name ++ drop k bytes) is in
    let two : after ≡ take start between ++ (47 ∷ drop (start + 1) between) = second ∙ append_assoc (take start between) (47 ∷ []) (drop (start + 1) between) in
    ap (drop start) two ∙ drop_at (take start between) (47 ∷ drop (start + 1) between) start (length-take-le start between (omega (arith, long))) ∙ ap (λ (bs : List ℕ). 47 ∷ bs) behind

-- if nothing was written there were no names
some_length : (names : List (List ℕ)) → length (spelled names) ≡ 0 → names ≡ []
some_length [] e = refl
some_length (name ∷ names) e = absurd cc

module _ (t : Tree) (n start : ℕ) (buffer : List ℕ) (now : IsSoFar t n 1 start buffer) where
  left : length (spelled now.names) ≡ PATH_MAX - start
  left = ap length (sym now.bytes) ∙ length-drop start buffer ∙ ap (λ (k : ℕ). k - start) now.whole

  -- the names that were passed up to the root are the path
  pub path_so : start < PATH_MAX → IsPathOf t n (drop start buffer)
  path_so less = record { names = now.names; named = now.named; leads = now.leads; bytes = now.bytes ∙ by now.names left }
    where
      by : (names : List (List ℕ)) → length (spelled names) ≡ PATH_MAX - start → spelled names ≡ path_by names
      by [] e = absurd (omega (arith, e, less))
      by (name ∷ names) e = refl

  -- and if none was passed, this is the root
  pub root_so : PATH_MAX ≤ start → (bytes : List ℕ) → bytes ≡ 47 ∷ [] → IsPathOf t n bytes
  root_so all bytes is =
      let none : now.names ≡ [] = some_length now.names (omega (arith, left, all)) in
      record { names = []; named = tt; leads = subst (λ (names : List (List ℕ)). LeadTo t 1 names n) none now.leads; bytes = is }

-- whether a directory lives, by the kind of what lives
pub live_kind : (o : Option Inode) → Some Dir ≡ option_map kind_of o → is_directory_inode o ≡ true
live_kind None e = absurd cc
live_kind (Some Directory) e = refl
live_kind (Some Regular) e = absurd cc
live_kind (Some (Symbolic text)) e = absurd cc

pub other_kind : (o : Option Inode) (k : Option Kind) → k ≡ option_map kind_of o → (k ≡ Some Dir → ⊥) → is_directory_inode o ≡ false
other_kind None k e other = refl
other_kind (Some Directory) k e other = absurd (other e)
other_kind (Some Regular) k e other = refl
other_kind (Some (Symbolic text)) k e other = refl

pub none_no_dir : ◌≡◌ {A = Option Kind} None (Some Dir) → ⊥
none_no_dir e = cc

pub file_no_dir : ◌≡◌ {A = Option Kind} (Some File) (Some Dir) → ⊥
file_no_dir e = cc

pub link_no_dir : ◌≡◌ {A = Option Kind} (Some Link) (Some Dir) → ⊥
link_no_dir e = cc

-- what holds if nothing is answered holds of what is
pub if_none : {X : Type 0} (r : Option X) {P : Type 0} → P → IfNone r P
if_none None p = p
if_none (Some x) p = tt

-- what is written for the root
pub root_bytes : (buffer : List ℕ) → length buffer ≡ PATH_MAX → drop 4094 (slice_set buffer 4094 47) ≡ 47 ∷ []
root_bytes buffer whole =
    let inside : 4094 < length buffer = omega (arith, whole) in
    let none : drop 4095 buffer ≡ [] = drop_all 4095 buffer (omega (arith, whole)) in
    drop-set_at buffer 4094 4094 47 refl inside ∙ ap (λ (rest : List ℕ). 47 ∷ rest) none

pub short_so : (start : ℕ) (buffer : List ℕ) → length buffer ≡ PATH_MAX → length (drop start buffer) ≤ PATH_MAX
short_so start buffer whole = let left = length-drop start buffer in omega (arith, left, whole)

pub short_root : (bytes : List ℕ) → bytes ≡ 47 ∷ [] → length bytes ≤ PATH_MAX
short_root bytes is = let one : length bytes ≡ 1 = ap length is in omega (arith, one)
