-- A refusal leaves the tree as it was.
use Rattle.std.proofs.Common.{◌≡◌, ℕ, List, Bool, true, false, Result, Ok, Err, refl, not, ◌==◌, ◌&&◌, ◌||◌, is_some, length, if◌then◌else◌}
use Rattle.std.specs.Prelude.{nat_le}
use Rattle.dc_names.specs.declared.refusal.Refusal.{Refusal}
use Rattle.dc_names.specs.declared.refusal.Refusal.TheVariants.{NotPermitted, NotFound, Busy, Exists, NotDirectory, Invalid, NoSpace, TooManyNames, NotEmpty}
use Rattle.dc_names.specs.declared.limits.TheConstants.{MOST_NAMES}
use Rattle.dc_names.specs.Bytes.{is_empty}
use Rattle.dc_plain.specs.Facts.{Target}
use Rattle.dc_plain.specs.Facts.Label.{Entry}
use Rattle.dc_plain.specs.Places.{Where}
use Rattle.dc_plain.specs.Resolution.{is_directory}
use Rattle.dc_plain.specs.Trees.{Tree, Inode, entry_of, names_of, names_in}
use Rattle.dc_plain.specs.Trees.Inode.{Directory, Regular, Symbolic}
use Rattle.dc_plain.specs.Requests.{Answer, Request}
use Rattle.dc_plain.specs.Requests.Answer.{Done, Nothing, Refused}
use Rattle.dc_plain.specs.Requests.Request.{Look, Readlink, Stat, List_names, Mkdir, Create, Hard_link, Symlink, Unlink, Rmdir, Rename}
use Rattle.dc_names.specs.Lasts.{name_or, name_or_each}
use Rattle.dc_plain.specs.Refusals.{◌>>=◌, refuse, path_or_fault, place_on, where_on, present, is_full}
use Rattle.dc_plain.specs.Effects.{with_new, with_entry_for, without_entry, tree_swapped}
use Rattle.dc_plain.specs.Plans.{with_moved}
use Rattle.dc_plain.specs.Spots.{spot_at}
use Rattle.dc_plain.specs.declared.call.Flags.{Flags}
use Rattle.dc_plain.specs.Reads.{look, readlink, stat, list_names}
use Rattle.dc_plain.specs.Operations.{Change, make, link, unlink, rmdir, is_beneath, replaceable, same_inode, move_name, swap_names, rename, left_alone, change_of, settled}
use Rattle.dc_plain.specs.Laws.{RefusalsAlterNothing}

-- a refused change leaves the tree
abbrev pub Spares : Tree → Change → Type 0
Spares t change = (number : ℕ) → (settled t change).0 ≡ Refused number → (settled t change).1 ≡ t

step : {A : Type 0} (t : Tree) (r : Result A Refusal) (next : A → Change) → ((a : A) → Spares t (next a)) → Spares t (r >>= next)
step t (Ok a) next so = so a
step t (Err refusal) next so = λ other e. refl

either : (t : Tree) (test : Bool) (one other : Change) → Spares t one → Spares t other → Spares t (if test then one else other)
either t true one other so also = so
either t false one other so also = also

done : (t u : Tree) (made : ℕ) → Spares t (Ok (Done made, u))
done t u made number e = let other : Done made ≡ Refused number = e in absurd cc

nothing : (t u : Tree) → Spares t (Ok (Nothing, u))
nothing t u number e = let other : Nothing ≡ Refused number = e in absurd cc

make-spares : (limit : ℕ) (t : Tree) (base : ℕ) (text : List ℕ) (may : Bool) (inode : Inode) → Spares t (make limit t base text may inode)
make-spares limit t base text may inode =
    step t (where_on t base text) _ λ at.
    step t (name_or Exists at.last) _ λ name.
    step t (refuse (is_some (entry_of t at.dir (Entry name))) Exists) _ λ free.
    step t (refuse (at.slash && not may) NotFound) _ λ ends.
    step t (refuse (is_full limit t) NoSpace) _ λ room. done t (with_new t at.dir name inode) t.next

link-spares : (t : Tree) (base : ℕ) (old new : List ℕ) → Spares t (link t base old new)
link-spares t base old new =
    step t (path_or_fault old) _ λ old_path.
    step t (path_or_fault new) _ λ new_path.
    step t (place_on t base old_path) _ λ from.
    step t (place_on t base new_path) _ λ to.
    step t (name_or NotPermitted from.last) _ λ old_name.
    step t (name_or Exists to.last) _ λ new_name.
    step t (present NotFound (entry_of t from.dir (Entry old_name))) _ λ inode.
    step t (refuse (is_directory inode) NotPermitted) _ λ no_directory.
    step t (refuse from.slash NotDirectory) _ λ old_ends.
    step t (refuse (is_some (entry_of t to.dir (Entry new_name))) Exists) _ λ free.
    step t (refuse to.slash NotFound) _ λ new_ends.
    step t (refuse (nat_le MOST_NAMES (names_of t inode.0)) TooManyNames) _ λ room. done t (with_entry_for t to.dir new_name inode.0) inode.0

unlink-spares : (t : Tree) (base : ℕ) (text : List ℕ) → Spares t (unlink t base text)
unlink-spares t base text =
    step t (where_on t base text) _ λ at.
    step t (name_or NotPermitted at.last) _ λ name.
    step t (present NotFound (entry_of t at.dir (Entry name))) _ λ inode.
    step t (refuse (is_directory inode) NotPermitted) _ λ no_directory.
    step t (refuse at.slash NotDirectory) _ λ ends. nothing t (without_entry t at.dir name inode.0)

rmdir-spares : (t : Tree) (base : ℕ) (text : List ℕ) → Spares t (rmdir t base text)
rmdir-spares t base text =
    step t (where_on t base text) _ λ at.
    step t (name_or_each Busy Invalid NotEmpty at.last) _ λ name.
    step t (present NotFound (entry_of t at.dir (Entry name))) _ λ inode.
    step t (refuse (not (is_directory inode)) NotDirectory) _ λ dir.
    step t (refuse (not (is_empty (names_in t inode.0))) NotEmpty) _ λ empty. nothing t (without_entry t at.dir name inode.0)

move-spares : (t : Tree) (from : Where) (old : List ℕ) (to : Where) (new : List ℕ) (moved : Target) (no_replace : Bool) → Spares t (move_name t from old to new moved no_replace)
move-spares t from old to new moved no_replace =
    step t (refuse (not (is_directory moved) && (from.slash || to.slash)) NotDirectory) _ λ ends.
    let there = entry_of t to.dir (Entry new) in
    step t (refuse (no_replace && is_some there) Exists) _ λ free.
    either t (same_inode moved there) _ _ (nothing t t)
    (step t (refuse (is_directory moved && is_beneath (length t.inodes) t to.dir moved.0) Invalid) _ λ apart.
    step t (replaceable t moved there) _ λ may. nothing t (with_moved t moved (record { dir = from.dir; name = old }) (record { dir = to.dir; name = new }) there))

swap-spares : (t : Tree) (from : Where) (old : List ℕ) (to : Where) (new : List ℕ) (moved : Target) → Spares t (swap_names t from old to new moved)
swap-spares t from old to new moved =
    step t (present NotFound (entry_of t to.dir (Entry new))) _ λ there.
    step t (refuse (not (is_directory moved) && from.slash) NotDirectory) _ λ old_ends.
    step t (refuse (not (is_directory there) && to.slash) NotDirectory) _ λ new_ends.
    either t (moved.0 == there.0) _ _ (nothing t t)
    (step t (refuse (is_directory moved && is_beneath (length t.inodes) t to.dir moved.0) Invalid) _ λ apart.
    step t (refuse (is_directory there && is_beneath (length t.inodes) t from.dir there.0) Invalid) _ λ apart_too. nothing t (tree_swapped t (spot_at from.dir old) moved.0 (spot_at to.dir new) there.0))

rename-spares : (t : Tree) (base : ℕ) (old new : List ℕ) (flags : Flags) → Spares t (rename t base old new flags)
rename-spares t base old new flags =
    step t (refuse (flags.no_replace && flags.exchange) Invalid) _ λ one.
    step t (path_or_fault old) _ λ old_path.
    step t (path_or_fault new) _ λ new_path.
    step t (place_on t base old_path) _ λ from.
    step t (place_on t base new_path) _ λ to.
    step t (name_or_each Busy Invalid Invalid from.last) _ λ old_name.
    step t (name_or_each Busy Invalid Invalid to.last) _ λ new_name.
    step t (present NotFound (entry_of t from.dir (Entry old_name))) _ λ moved.
    either t flags.exchange _ _ (swap-spares t from old_name to new_name moved) (move-spares t from old_name to new_name moved flags.no_replace)

reads-spare : (t : Tree) (answered : Result Answer Refusal) → Spares t (left_alone t answered)
reads-spare t (Ok answer) = λ number e. refl
reads-spare t (Err refusal) = λ other e. refl

changes-spare : (limit : ℕ) (t : Tree) (request : Request) → Spares t (change_of limit t request)
changes-spare limit t (Look base path how) = reads-spare t (look t base path how)
changes-spare limit t (Readlink base path) = reads-spare t (readlink t base path)
changes-spare limit t (Stat base path) = reads-spare t (stat t base path)
changes-spare limit t (List_names base path) = reads-spare t (list_names t base path)
changes-spare limit t (Mkdir base path) = make-spares limit t base path true Directory
changes-spare limit t (Create base path) = make-spares limit t base path false Regular
changes-spare limit t (Hard_link base old new) = link-spares t base old new
changes-spare limit t (Symlink base text path) = step t (path_or_fault text) _ λ link_text. make-spares limit t base path false (Symbolic text)
changes-spare limit t (Unlink base path) = unlink-spares t base path
changes-spare limit t (Rmdir base path) = rmdir-spares t base path
changes-spare limit t (Rename base old new flags) = rename-spares t base old new flags

pub refusals-spare : RefusalsAlterNothing
refusals-spare limit t request number e = changes-spare limit t request number e
