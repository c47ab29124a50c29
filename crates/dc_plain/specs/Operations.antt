-- What each call answers on a tree, and the tree that it leaves.
use Rattle.std.specs.Prelude.{ℕ, zero, suc, List, Bool, true, false, not, ◌==◌, ◌&&◌, ◌||◌, nat_le, length, Option, Some, None, is_some, if◌then◌else◌, Result, Ok, Err}
use Rattle.dc_names.specs.declared.refusal.Refusal.{Refusal}
use Rattle.dc_names.specs.declared.refusal.Refusal.TheVariants.{NotPermitted, NotFound, Busy, Exists, NotDirectory, IsDirectory, Invalid, NoSpace, TooManyNames, NotEmpty}
use Rattle.dc_names.specs.declared.limits.TheConstants.{MOST_NAMES}
use Rattle.dc_names.specs.Bytes.{is_empty}
use Rattle.dc_names.specs.Lasts.{name_or, name_or_each}
use Rattle.dc_names.specs.Refusals.{refusal_number}
use Rattle.dc_plain.specs.Facts.{Target}
use Rattle.dc_plain.specs.Facts.Label.{Entry}
use Rattle.dc_plain.specs.Resolution.{is_directory}
use Rattle.dc_plain.specs.Trees.{Tree, Inode, entry_of, names_of, names_in, holder_of, if_held}
use Rattle.dc_plain.specs.Trees.Inode.{Directory, Regular, Symbolic}
use Rattle.dc_plain.specs.Requests.{Request, Answer}
use Rattle.dc_plain.specs.Requests.Request.{Look, Readlink, Stat, List_names, Mkdir, Create, Hard_link, Symlink, Unlink, Rmdir, Rename}
use Rattle.dc_plain.specs.Requests.Answer.{Done, Nothing, Refused}
use Rattle.dc_plain.specs.Refusals.{◌>>=◌, refuse, path_or_fault, place_on, where_on, present, is_full}
use Rattle.dc_plain.specs.Places.{Where}
use Rattle.dc_plain.specs.Spots.{spot_at}
use Rattle.dc_plain.specs.declared.call.Flags.{Flags}
use Rattle.dc_plain.specs.Reads.{look, readlink, stat, list_names}
use Rattle.dc_plain.specs.Effects.{with_new, with_entry_for, without_entry, without_entry_alone, without_there, tree_swapped}

-- the answer with the tree that is left, or a refusal
abbrev pub Change : Type 0
Change = Result (Answer × Tree) Refusal

-- a new inode of this kind, with its entry (mkdir, mknod, symlink)
abbrev pub make : ℕ → Tree → ℕ → List ℕ → Bool → Inode → Change
make limit t base text may_end_in_slash inode = do
  at ← where_on t base text
  name ← name_or Exists at.last
  free ← refuse (is_some (entry_of t at.dir (Entry name))) Exists
  ends ← refuse (at.slash && not may_end_in_slash) NotFound
  room ← refuse (is_full limit t) NoSpace
  Ok (Done t.next, with_new t at.dir name inode)

-- a further name of an inode (link: without AT_SYMLINK_FOLLOW)
abbrev pub link : Tree → ℕ → List ℕ → List ℕ → Change
link t base old new = do
  old_path ← path_or_fault old
  new_path ← path_or_fault new
  from ← place_on t base old_path
  to ← place_on t base new_path
  old_name ← name_or NotPermitted from.last
  new_name ← name_or Exists to.last
  inode ← present NotFound (entry_of t from.dir (Entry old_name))
  no_directory ← refuse (is_directory inode) NotPermitted
  old_ends ← refuse from.slash NotDirectory
  free ← refuse (is_some (entry_of t to.dir (Entry new_name))) Exists
  new_ends ← refuse to.slash NotFound
  room ← refuse (nat_le MOST_NAMES (names_of t inode.0)) TooManyNames
  Ok (Done inode.0, with_entry_for t to.dir new_name inode.0)

-- a name of a file or of a link goes
abbrev pub unlink : Tree → ℕ → List ℕ → Change
unlink t base text = do
  at ← where_on t base text
  name ← name_or NotPermitted at.last
  inode ← present NotFound (entry_of t at.dir (Entry name))
  no_directory ← refuse (is_directory inode) NotPermitted
  ends ← refuse at.slash NotDirectory
  Ok (Nothing, without_entry t at.dir name inode.0)

-- an empty directory goes
abbrev pub rmdir : Tree → ℕ → List ℕ → Change
rmdir t base text = do
  at ← where_on t base text
  name ← name_or_each Busy Invalid NotEmpty at.last
  inode ← present NotFound (entry_of t at.dir (Entry name))
  dir ← refuse (not (is_directory inode)) NotDirectory
  empty ← refuse (not (is_empty (names_in t inode.0))) NotEmpty
  Ok (Nothing, without_entry t at.dir name inode.0)

-- going up from d one meets n, or doesn't come to the root within this many steps
abbrev pub is_beneath : ℕ → Tree → ℕ → ℕ → Bool
is_beneath zero t d n = true
is_beneath (suc steps) t d n = d == n || not (d == 1) && if_held (holder_of t d) (λ up. is_beneath steps t up n)

-- what may stand at the new name
abbrev pub replaceable : Tree → Target → Option Target → Result Bool Refusal
replaceable t moved None = Ok true
replaceable t moved (Some there) =
    if is_directory moved then (if not (is_directory there) then Err NotDirectory else refuse (not (is_empty (names_in t there.0))) NotEmpty)
    else refuse (is_directory there) IsDirectory

-- whether both names lead to one inode
abbrev pub same_inode : Target → Option Target → Bool
same_inode moved None = false
same_inode moved (Some there) = moved.0 == there.0

-- an inode gets another name in place of one of its names, which no inode may have if none may be replaced
abbrev pub move_name : Tree → Where → List ℕ → Where → List ℕ → Target → Bool → Change
move_name t from old to new moved no_replace = do
  ends ← refuse (not (is_directory moved) && (from.slash || to.slash)) NotDirectory
  let there = entry_of t to.dir (Entry new)
  free ← refuse (no_replace && is_some there) Exists
  if same_inode moved there then Ok (Nothing, t) else do
    apart ← refuse (is_directory moved && is_beneath (length t.inodes) t to.dir moved.0) Invalid
    may ← replaceable t moved there
    Ok (Nothing, with_entry_for (without_entry_alone (without_there t to.dir new there) from.dir old) to.dir new moved.0)

-- two names swap their inodes, of any kinds, if neither is above the other's name
abbrev pub swap_names : Tree → Where → List ℕ → Where → List ℕ → Target → Change
swap_names t from old to new moved = do
  there ← present NotFound (entry_of t to.dir (Entry new))
  old_ends ← refuse (not (is_directory moved) && from.slash) NotDirectory
  new_ends ← refuse (not (is_directory there) && to.slash) NotDirectory
  if moved.0 == there.0 then Ok (Nothing, t) else do
    apart ← refuse (is_directory moved && is_beneath (length t.inodes) t to.dir moved.0) Invalid
    apart_too ← refuse (is_directory there && is_beneath (length t.inodes) t from.dir there.0) Invalid
    Ok (Nothing, tree_swapped t (spot_at from.dir old) moved.0 (spot_at to.dir new) there.0)

-- by the flags
abbrev pub rename_at : Tree → Where → List ℕ → Where → List ℕ → Flags → Change
rename_at t from old to new flags = do
  moved ← present NotFound (entry_of t from.dir (Entry old))
  if flags.exchange then swap_names t from old to new moved else move_name t from old to new moved flags.no_replace

-- an inode gets another name, or swaps names with another inode (rename; renameat2 with RENAME_NOREPLACE or RENAME_EXCHANGE)
abbrev pub rename : Tree → ℕ → List ℕ → List ℕ → Flags → Change
rename t base old new flags = do
  one ← refuse (flags.no_replace && flags.exchange) Invalid
  old_path ← path_or_fault old
  new_path ← path_or_fault new
  from ← place_on t base old_path
  to ← place_on t base new_path
  old_name ← name_or_each Busy Invalid Invalid from.last
  new_name ← name_or_each Busy Invalid Invalid to.last
  rename_at t from old_name to new_name flags

-- a link whose text has a path
abbrev pub symlink : ℕ → Tree → ℕ → List ℕ → List ℕ → Change
symlink limit t base text path = do
  link_text ← path_or_fault text
  make limit t base path false (Symbolic text)

-- a read, which leaves the tree as it is
abbrev pub left_alone : Tree → Result Answer Refusal → Change
left_alone t answered = answered >>= λ answer. Ok (answer, t)

-- by the request
abbrev pub change_of : ℕ → Tree → Request → Change
change_of limit t (Look base path how) = left_alone t (look t base path how)
change_of limit t (Readlink base path) = left_alone t (readlink t base path)
change_of limit t (Stat base path) = left_alone t (stat t base path)
change_of limit t (List_names base path) = left_alone t (list_names t base path)
change_of limit t (Mkdir base path) = make limit t base path true Directory
change_of limit t (Create base path) = make limit t base path false Regular
change_of limit t (Hard_link base old new) = link t base old new
change_of limit t (Symlink base text path) = symlink limit t base text path
change_of limit t (Unlink base path) = unlink t base path
change_of limit t (Rmdir base path) = rmdir t base path
change_of limit t (Rename base old new flags) = rename t base old new flags

-- a refusal is told by its number, and leaves the tree as it was
abbrev pub settled : Tree → Change → Answer × Tree
settled t (Ok done) = done
settled t (Err refusal) = (Refused (refusal_number refusal), t)

-- what a call answers with this many inodes allowed, and the tree after it
abbrev pub operation : ℕ → Tree → Request → Answer × Tree
operation limit t request = settled t (change_of limit t request)
