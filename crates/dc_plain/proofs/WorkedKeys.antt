-- Which keys calls touch, in small trees.
use Rattle.std.proofs.Common.{◌≡◌, List, [], ◌∷◌, refl, codes}
use Rattle.dc_plain.specs.Facts.{Key}
use Rattle.dc_plain.specs.Trees.{empty_tree}
use Rattle.dc_plain.specs.Requests.{Request}
use Rattle.dc_plain.specs.Requests.Request.{Mkdir, Create, Hard_link, Symlink, Unlink, Rmdir, Rename}
use Rattle.dc_plain.specs.Resolution.{resolve}
use Rattle.dc_plain.specs.Runs.{tree_after_all}
use Rattle.dc_plain.proofs.WorkedFlags.{plain, exchanging}
use Rattle.dc_plain.specs.TouchedKeys.{keys_touched, entry_key, parent_key, text_key}

-- after these calls, that call touches
abbrev keys_after : List Request → Request → List Key
keys_after before request = keys_touched 16 (tree_after_all 16 empty_tree before) request

-- mkdir /a: the name and the made directory's dot-dot
mkdir_touches : keys_after [] (Mkdir 1 (47 ∷ 97 ∷ [])) ≡ entry_key 1 (97 ∷ []) ∷ parent_key 2 ∷ []
unfolding resolve
mkdir_touches = refl

-- create /f, and once more
create_touches : keys_after [] (Create 1 (47 ∷ 102 ∷ [])) ≡ entry_key 1 (102 ∷ []) ∷ []
unfolding resolve
create_touches = refl

refused_touches : keys_after (Create 1 (47 ∷ 102 ∷ []) ∷ []) (Create 1 (47 ∷ 102 ∷ [])) ≡ []
unfolding resolve
refused_touches = refl

-- symlink f /l: the name and the link's text
symlink_touches : keys_after [] (Symlink 1 (102 ∷ []) (47 ∷ 108 ∷ [])) ≡ entry_key 1 (108 ∷ []) ∷ text_key 2 ∷ []
unfolding resolve
symlink_touches = refl

-- symlink f /l; link /l /k: the new name alone
link_touches : keys_after (Symlink 1 (102 ∷ []) (47 ∷ 108 ∷ []) ∷ []) (Hard_link 1 (47 ∷ 108 ∷ []) (47 ∷ 107 ∷ [])) ≡ entry_key 1 (107 ∷ []) ∷ []
unfolding resolve
link_touches = refl

-- and then unlink /l: the text stays, since k still leads to it
unlink_touches : keys_after (Symlink 1 (102 ∷ []) (47 ∷ 108 ∷ []) ∷ Hard_link 1 (47 ∷ 108 ∷ []) (47 ∷ 107 ∷ []) ∷ []) (Unlink 1 (47 ∷ 108 ∷ [])) ≡ entry_key 1 (108 ∷ []) ∷ []
unfolding resolve
unlink_touches = refl

-- the last name of a link goes with its text
last_unlink_touches : keys_after (Symlink 1 (102 ∷ []) (47 ∷ 108 ∷ []) ∷ []) (Unlink 1 (47 ∷ 108 ∷ [])) ≡ entry_key 1 (108 ∷ []) ∷ text_key 2 ∷ []
unfolding resolve
last_unlink_touches = refl

-- mkdir /a; rmdir /a: the name and the removed directory's dot-dot
rmdir_touches : keys_after (Mkdir 1 (47 ∷ 97 ∷ []) ∷ []) (Rmdir 1 (47 ∷ 97 ∷ [])) ≡ entry_key 1 (97 ∷ []) ∷ parent_key 2 ∷ []
unfolding resolve
rmdir_touches = refl

-- mkdir /a; mkdir /b; mkdir /b/c; rename /a /b/c: both names, the moved dot-dot and the replaced one
rename_touches : keys_after (Mkdir 1 (47 ∷ 97 ∷ []) ∷ Mkdir 1 (47 ∷ 98 ∷ []) ∷ Mkdir 1 (47 ∷ 98 ∷ 47 ∷ 99 ∷ []) ∷ []) (Rename 1 (47 ∷ 97 ∷ []) (47 ∷ 98 ∷ 47 ∷ 99 ∷ []) plain)
    ≡ entry_key 1 (97 ∷ []) ∷ entry_key 3 (99 ∷ []) ∷ parent_key 2 ∷ parent_key 4 ∷ []
unfolding resolve
rename_touches = refl

-- mkdir /a; rename /a /b: its parent stays
rename_within_touches : keys_after (Mkdir 1 (47 ∷ 97 ∷ []) ∷ []) (Rename 1 (47 ∷ 97 ∷ []) (47 ∷ 98 ∷ []) plain) ≡ entry_key 1 (97 ∷ []) ∷ entry_key 1 (98 ∷ []) ∷ []
unfolding resolve
rename_within_touches = refl

-- create /f; link /f /g; rename /f /g: nothing
rename_same_touches : keys_after (Create 1 (47 ∷ 102 ∷ []) ∷ Hard_link 1 (47 ∷ 102 ∷ []) (47 ∷ 103 ∷ []) ∷ []) (Rename 1 (47 ∷ 102 ∷ []) (47 ∷ 103 ∷ []) plain) ≡ []
unfolding resolve
rename_same_touches = refl

-- mkdir /a; mkdir /a/b; mkdir /c; exchange /a/b and /c: both names, and both dot-dots
exchange_touches : keys_after (Mkdir 1 (codes "/a") ∷ Mkdir 1 (codes "/a/b") ∷ Mkdir 1 (codes "/c") ∷ []) (Rename 1 (codes "/a/b") (codes "/c") exchanging)
    ≡ entry_key 2 (codes "b") ∷ entry_key 1 (codes "c") ∷ parent_key 3 ∷ parent_key 4 ∷ []
unfolding resolve
exchange_touches = refl

-- mkdir /a; mkdir /b; exchange /a and /b: the names alone, since their parent stays
exchange_within_touches : keys_after (Mkdir 1 (codes "/a") ∷ Mkdir 1 (codes "/b") ∷ []) (Rename 1 (codes "/a") (codes "/b") exchanging) ≡ entry_key 1 (codes "a") ∷ entry_key 1 (codes "b") ∷ []
unfolding resolve
exchange_within_touches = refl

-- mkdir /a; create /a/f; mkdir /c; exchange /a/f and /c: the one dot-dot
exchange_of_one_touches : keys_after (Mkdir 1 (codes "/a") ∷ Create 1 (codes "/a/f") ∷ Mkdir 1 (codes "/c") ∷ []) (Rename 1 (codes "/a/f") (codes "/c") exchanging)
    ≡ entry_key 2 (codes "f") ∷ entry_key 1 (codes "c") ∷ parent_key 4 ∷ []
unfolding resolve
exchange_of_one_touches = refl
