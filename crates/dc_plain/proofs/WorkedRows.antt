-- Worked rows of one thread, computed by the definitions.
use Rattle.std.proofs.Common.{◌≡◌, ℕ, zero, suc, ◌+◌, List, [], ◌∷◌, ◌++◌, refl, codes, replicate}
use Rattle.dc_names.specs.declared.kind.Kind.TheVariants.{Dir, File, Link}
use Rattle.dc_names.specs.declared.limits.TheConstants.{MOST_LINKS}
use Rattle.dc_plain.specs.declared.call.Follow.TheVariants as follow
use Rattle.dc_plain.specs.Trees.{empty_tree}
use Rattle.dc_plain.specs.Requests.{Request, Answer}
use Rattle.dc_plain.specs.Requests.Request.{Look, Readlink, Stat, List_names, Mkdir, Create, Hard_link, Symlink, Unlink, Rmdir, Rename}
use Rattle.dc_plain.specs.Requests.Answer.{Found, Done, Nothing, Bytes, Names, Counted, Refused}
use Rattle.dc_plain.specs.Resolution.{resolve}
use Rattle.dc_plain.specs.Runs.{replies_of}
use Rattle.dc_plain.proofs.WorkedFlags.{plain, unreplacing, exchanging, both_flags}

-- nothing asked
nothing_asked : replies_of 16 empty_tree []
    ≡ []
unfolding resolve
nothing_asked = refl

-- slashes, and dot-dot of the root
root_above_itself : replies_of 16 empty_tree (
    Look 1 (codes "/") follow.Yes
    ∷ Look 1 (codes "//../..") follow.Yes
    ∷ [])
    ≡ Found 1 Dir ∷ Found 1 Dir ∷ []
unfolding resolve
root_above_itself = refl

-- an ending slash of a new directory
directory_with_end_slash : replies_of 16 empty_tree (
    Mkdir 1 (codes "/a/")
    ∷ Look 1 (codes "/a") follow.Yes
    ∷ [])
    ≡ Done 2 ∷ Found 2 Dir ∷ []
unfolding resolve
directory_with_end_slash = refl

-- the empty path
empty_path : replies_of 16 empty_tree (
    Look 1 [] follow.Yes
    ∷ [])
    ≡ Refused 2 ∷ []
unfolding resolve
empty_path = refl

-- what was missing is made
missing_then_made : replies_of 16 empty_tree (
    Look 1 (codes "/f") follow.Yes
    ∷ Look 1 (codes "/f") follow.Yes
    ∷ Create 1 (codes "/f")
    ∷ Look 1 (codes "/f") follow.Yes
    ∷ Look 1 (codes "/f/") follow.Yes
    ∷ [])
    ≡ Refused 2 ∷ Refused 2 ∷ Done 2 ∷ Found 2 File ∷ Refused 20 ∷ []
unfolding resolve
missing_then_made = refl

-- dot beneath a file
dot_beneath_file : replies_of 16 empty_tree (
    Create 1 (codes "/f")
    ∷ Look 1 (codes "/f/.") follow.Yes
    ∷ [])
    ≡ Done 2 ∷ Refused 20 ∷ []
unfolding resolve
dot_beneath_file = refl

-- a link that leads to itself
link_to_itself : replies_of 16 empty_tree (
    Symlink 1 (codes "l") (codes "/l")
    ∷ Look 1 (codes "/l") follow.Yes
    ∷ Look 1 (codes "/l") follow.No
    ∷ [])
    ≡ Done 2 ∷ Refused 40 ∷ Found 2 Link ∷ []
unfolding resolve
link_to_itself = refl

-- a name of one byte
abbrev named : ℕ → List ℕ
named n = (100 + n) ∷ []

-- this many links in the root, each made after the one that it leads to
abbrev chain : ℕ → List Request
chain zero = []
chain (suc n) = Symlink 1 (named (suc n)) (47 ∷ named n) ∷ chain n

-- this many inodes made, from a number on
abbrev made : ℕ → ℕ → List Answer
made first zero = []
made first (suc n) = Done first ∷ made (suc first) n

-- as many links as are followed, and one more
most_links_and_one_more : replies_of 65536 empty_tree (
    Create 1 (47 ∷ named (MOST_LINKS + 1))
    ∷ chain (MOST_LINKS + 1)
    ++ Look 1 (47 ∷ named 1) follow.Yes
    ∷ Look 1 (47 ∷ named 0) follow.Yes
    ∷ [])
    ≡ made 2 (MOST_LINKS + 2) ++ Found 2 File ∷ Refused 40 ∷ []
unfolding resolve
most_links_and_one_more = refl

-- a rename onto another name of the same file
rename_onto_same_file : replies_of 65536 empty_tree (
    Create 1 (codes "/f")
    ∷ Hard_link 1 (codes "/f") (codes "/g")
    ∷ Rename 1 (codes "/f") (codes "/g") plain
    ∷ Look 1 (codes "/f") follow.Yes
    ∷ [])
    ≡ Done 2 ∷ Done 2 ∷ Nothing ∷ Found 2 File ∷ []
unfolding resolve
rename_onto_same_file = refl

-- a directory beneath itself
directory_beneath_itself : replies_of 65536 empty_tree (
    Mkdir 1 (codes "/a")
    ∷ Rename 1 (codes "/a") (codes "/a/b") plain
    ∷ [])
    ≡ Done 2 ∷ Refused 22 ∷ []
unfolding resolve
directory_beneath_itself = refl

-- what rmdir and unlink refuse
removals_refused : replies_of 65536 empty_tree (
    Mkdir 1 (codes "/a")
    ∷ Create 1 (codes "/a/x")
    ∷ Rmdir 1 (codes "/a")
    ∷ Rmdir 1 (codes "/a/.")
    ∷ Rmdir 1 (codes "/a/..")
    ∷ Rmdir 1 (codes "/")
    ∷ Unlink 1 (codes "/a")
    ∷ [])
    ≡ Done 2 ∷ Done 3 ∷ Refused 39 ∷ Refused 22 ∷ Refused 39 ∷ Refused 16 ∷ Refused 1 ∷ []
unfolding resolve
removals_refused = refl

-- names of 255 and of 256 bytes
longest_name : replies_of 65536 empty_tree (
    Mkdir 1 (codes "/" ++ replicate 255 110)
    ∷ Mkdir 1 (codes "/x/" ++ replicate 256 110)
    ∷ [])
    ≡ Done 2 ∷ Refused 36 ∷ []
unfolding resolve
longest_name = refl

-- a starting directory that is gone
start_gone : replies_of 65536 empty_tree (
    Mkdir 1 (codes "/a")
    ∷ Look 1 (codes "/a") follow.Dir
    ∷ Rmdir 1 (codes "/a")
    ∷ Look 2 (codes ".") follow.Yes
    ∷ [])
    ≡ Done 2 ∷ Found 2 Dir ∷ Nothing ∷ Refused 2 ∷ []
unfolding resolve
start_gone = refl

-- a link, its text, names and counts
links_names_counts : replies_of 65536 empty_tree (
    Mkdir 1 (codes "/d")
    ∷ Create 1 (codes "/d/f")
    ∷ Symlink 1 (codes "./d") (codes "/s")
    ∷ Look 1 (codes "/s/f") follow.Yes
    ∷ Look 1 (codes "/s") follow.No
    ∷ Look 1 (codes "/s/") follow.No
    ∷ Readlink 1 (codes "/s")
    ∷ List_names 1 (codes "/")
    ∷ Stat 1 (codes "/d/f")
    ∷ Look 1 (codes "/s/../d") follow.Yes
    ∷ [])
    ≡ Done 2 ∷ Done 3 ∷ Done 4 ∷ Found 3 File ∷ Found 4 Link ∷ Found 2 Dir ∷ Bytes (codes "./d") ∷ Names ((codes "d") ∷ (codes "s") ∷ []) ∷ Counted 3 File 1 ∷ Found 2 Dir ∷ []
unfolding resolve
links_names_counts = refl

-- the limit of inodes
inode_limit : replies_of 1 empty_tree (
    Mkdir 1 (codes "/a")
    ∷ Look 1 (codes "/a") follow.Yes
    ∷ [])
    ≡ Refused 28 ∷ Refused 2 ∷ []
unfolding resolve
inode_limit = refl

-- what is there, and what is missing
makes : replies_of 65536 empty_tree (
    Mkdir 1 (codes "/")
    ∷ Mkdir 1 (codes "/a")
    ∷ Mkdir 1 (codes "/a")
    ∷ Mkdir 1 (codes "/b/c")
    ∷ Look 1 (codes "//a///") follow.Yes
    ∷ [])
    ≡ Refused 17 ∷ Done 2 ∷ Refused 17 ∷ Refused 2 ∷ Found 2 Dir ∷ []
unfolding resolve
makes = refl

-- dots and starting directories
starts : replies_of 65536 empty_tree (
    Mkdir 1 (codes "/a")
    ∷ Mkdir 1 (codes "/a/b")
    ∷ Look 1 (codes "/a/b") follow.Dir
    ∷ Look 3 (codes ".") follow.Yes
    ∷ Look 3 (codes "..") follow.Yes
    ∷ Look 3 (codes "../../..") follow.Yes
    ∷ Mkdir 3 (codes "c")
    ∷ Look 3 (codes "/a/b/c/./..") follow.Yes
    ∷ Mkdir 3 (codes "/a/.")
    ∷ [])
    ≡ Done 2 ∷ Done 3 ∷ Found 3 Dir ∷ Found 3 Dir ∷ Found 2 Dir ∷ Found 1 Dir ∷ Done 4 ∷ Found 3 Dir ∷ Refused 17 ∷ []
unfolding resolve
starts = refl

-- what a rename refuses, and a moved directory
renames : replies_of 65536 empty_tree (
    Mkdir 1 (codes "/a")
    ∷ Mkdir 1 (codes "/b")
    ∷ Create 1 (codes "/b/x")
    ∷ Symlink 1 (codes "b") (codes "/l")
    ∷ Rename 1 (codes "/a") (codes "/b") plain
    ∷ Rename 1 (codes "/a") (codes "/b/x") plain
    ∷ Rename 1 (codes "/b/x") (codes "/a") plain
    ∷ Rename 1 (codes "/l/") (codes "/m") plain
    ∷ Rename 1 (codes "/a") (codes "/b/c") plain
    ∷ Look 1 (codes "/b/c/..") follow.Yes
    ∷ Look 1 (codes "/l/c") follow.Yes
    ∷ [])
    ≡ Done 2 ∷ Done 3 ∷ Done 4 ∷ Done 5 ∷ Refused 39 ∷ Refused 20 ∷ Refused 21 ∷ Refused 20 ∷ Nothing ∷ Found 3 Dir ∷ Found 2 Dir ∷ []
unfolding resolve
renames = refl

-- a number is never used again
unlinks : replies_of 65536 empty_tree (
    Create 1 (codes "/f")
    ∷ Unlink 1 (codes "/f/")
    ∷ Unlink 1 (codes "/f")
    ∷ Create 1 (codes "/f")
    ∷ [])
    ≡ Done 2 ∷ Refused 20 ∷ Nothing ∷ Done 3 ∷ []
unfolding resolve
unlinks = refl

-- an exchange of two directories, and what the flags refuse
flags_of_a_rename : replies_of 65536 empty_tree (
    Mkdir 1 (codes "/a")
    ∷ Mkdir 1 (codes "/a/b")
    ∷ Mkdir 1 (codes "/c")
    ∷ Rename 1 (codes "/a/b") (codes "/c") exchanging
    ∷ Look 1 (codes "/a/b") follow.Yes
    ∷ Look 1 (codes "/c/..") follow.Yes
    ∷ Rename 1 (codes "/a") (codes "/a/b") exchanging
    ∷ Rename 1 (codes "/a/b") (codes "/a") exchanging
    ∷ Rename 1 (codes "/a") (codes "/c") unreplacing
    ∷ Rename 1 (codes "/a") (codes "/c") both_flags
    ∷ Rename 1 (codes "/a") (codes "/d") unreplacing
    ∷ Rename 1 (codes "/d") (codes "/e") plain
    ∷ [])
    ≡ Done 2 ∷ Done 3 ∷ Done 4 ∷ Nothing ∷ Found 4 Dir ∷ Found 1 Dir ∷ Refused 22 ∷ Refused 22 ∷ Refused 17 ∷ Refused 22 ∷ Nothing ∷ Nothing ∷ []
unfolding resolve
flags_of_a_rename = refl
