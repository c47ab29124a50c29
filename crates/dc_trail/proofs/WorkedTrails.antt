-- Worked rows of trails, computed by the definition.
use Rattle.std.proofs.Common.{◌≡◌, ℕ, List, [], ◌∷◌, refl, codes}
use Rattle.dc_names.specs.Paths.{path_in}
use Rattle.dc_plain.specs.Requests.Request.{Mkdir, Create, Symlink}
use Rattle.dc_plain.specs.Runs.{tree_after_all}
use Rattle.dc_plain.specs.Trees.{Tree, empty_tree, told_of}
use Rattle.dc_plain.specs.declared.call.Follow.{Follow}
use Rattle.dc_plain.specs.declared.call.Follow.TheVariants as follow
use Rattle.dc_plain.specs.Resolution.{resolve}
use Rattle.dc_trail.specs.Questions.{asked_by, asked_in, trail_of}

-- /a is 2, /a/b is 3, /a/b/c is the file 4; /a/r leads to b, /l to /a, /s to itself
abbrev tree : Tree
tree = tree_after_all 16 empty_tree (
    Mkdir 1 (codes "/a")
    ∷ Mkdir 1 (codes "/a/b")
    ∷ Create 1 (codes "/a/b/c")
    ∷ Symlink 1 (codes "b") (codes "/a/r")
    ∷ Symlink 1 (codes "/a") (codes "/l")
    ∷ Symlink 1 (codes "/s") (codes "/s")
    ∷ [])

abbrev trail : ℕ → List ℕ → Follow → List ℕ
trail base text how = trail_of (told_of tree) base (path_in text) how

abbrev asked : ℕ → List ℕ → List ℕ
asked base text = asked_in (told_of tree) base (path_in text) follow.Yes

-- each directory before the last name, and that of the last name
found : trail 1 (codes "/a/b/c") follow.Yes ≡ 1 ∷ 2 ∷ 3 ∷ []
unfolding resolve asked_by
found = refl

-- up to the directory in which a name is missing
missing_in_the_middle : trail 1 (codes "/a/x/c") follow.Yes ≡ 1 ∷ 2 ∷ []
unfolding resolve asked_by
missing_in_the_middle = refl

-- in a file nothing is asked
beneath_a_file : trail 1 (codes "/a/b/c/d/e") follow.Yes ≡ 1 ∷ 2 ∷ 3 ∷ []
unfolding resolve asked_by
beneath_a_file = refl

-- dot-dot is asked in the directory that it leads out of, which may be asked in again
up_and_down : asked 1 (codes "/a/b/../b") ≡ 1 ∷ 2 ∷ 3 ∷ 2 ∷ []
unfolding resolve asked_by
up_and_down = refl

each_once : trail 1 (codes "/a/b/../b") follow.Yes ≡ 1 ∷ 2 ∷ 3 ∷ []
unfolding resolve asked_by
each_once = refl

-- the text of a link is asked where the link stands, or from the root
relative_link : asked 1 (codes "/a/r/c") ≡ 1 ∷ 2 ∷ 2 ∷ 3 ∷ []
unfolding resolve asked_by
relative_link = refl

absolute_link : asked 1 (codes "/l/b") ≡ 1 ∷ 1 ∷ 2 ∷ []
unfolding resolve asked_by
absolute_link = refl

-- a last link that isn't followed asks no more
last_link : trail 1 (codes "/a/r") follow.No ≡ 1 ∷ 2 ∷ []
unfolding resolve asked_by
last_link = refl

-- a relative path asks where it starts, whether that is there, and so does a dot alone
from_a_start : asked 3 (codes "c") ≡ 3 ∷ 3 ∷ []
unfolding resolve asked_by
from_a_start = refl

start_alone : trail 3 (codes ".") follow.Yes ≡ 3 ∷ []
unfolding resolve asked_by
start_alone = refl

up_from_a_start : trail 3 (codes "../x") follow.Yes ≡ 3 ∷ 2 ∷ []
unfolding resolve asked_by
up_from_a_start = refl

start_gone : trail 9 (codes "c") follow.Yes ≡ 9 ∷ []
unfolding resolve asked_by
start_gone = refl

-- from the root nothing is asked for the root itself
root_alone : trail 1 (codes "//.././..") follow.Yes ≡ []
unfolding resolve asked_by
root_alone = refl

-- a link that leads to itself asks in its directory, each time that it is followed
too_many_links : trail 1 (codes "/s") follow.Yes ≡ 1 ∷ []
unfolding resolve asked_by
too_many_links = refl
