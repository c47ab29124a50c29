-- Calls keep a tree well formed.
use Rattle.std.proofs.Common.{◌≡◌, ℕ, [], ◌∷◌, true, false, Ok, Err, refl}
use Rattle.dc_names.specs.Laws.{PartsAreNamesOrDots}
use Rattle.dc_plain.specs.Trees.{Tree}
use Rattle.dc_plain.specs.Trees.Inode.{Directory, Regular}
use Rattle.dc_plain.specs.Requests.{Answer, Request}
use Rattle.dc_plain.specs.Requests.Request.{Look, Readlink, Stat, List_names, Mkdir, Create, Hard_link, Symlink, Unlink, Rmdir, Rename}
use Rattle.dc_plain.specs.Reads.{look, readlink, stat, list_names}
use Rattle.dc_plain.specs.Operations.{change_of, settled, Change}
use Rattle.dc_plain.specs.Runs.{tree_after}
use Rattle.dc_plain.specs.IsWellFormed.{IsWellFormed}
use Rattle.dc_plain.specs.Laws.{KeepsTreesWellFormed, KeepsWithinLimit, KeepsRunsWellFormed, KeepsRunsWithinLimit}
use Rattle.dc_plain.proofs.Kept.{IsKept, make-keeps, symlink-keeps, reads-keeps}
use Rattle.dc_plain.proofs.KeptNames.{link-keeps, unlink-keeps, rmdir-keeps}
use Rattle.dc_plain.proofs.KeptMoves.{rename-keeps}

pub change-keeps : PartsAreNamesOrDots → (limit : ℕ) (t : Tree) (request : Request) (done : Answer × Tree) → IsWellFormed t → change_of limit t request ≡ Ok done → IsKept limit t done.1
change-keeps parts limit t (Look base path how) done well e = reads-keeps limit t (look t base path how) done well e
change-keeps parts limit t (Readlink base path) done well e = reads-keeps limit t (readlink t base path) done well e
change-keeps parts limit t (Stat base path) done well e = reads-keeps limit t (stat t base path) done well e
change-keeps parts limit t (List_names base path) done well e = reads-keeps limit t (list_names t base path) done well e
change-keeps parts limit t (Mkdir base path) done well e = make-keeps parts limit t base path true Directory done well tt e
change-keeps parts limit t (Create base path) done well e = make-keeps parts limit t base path false Regular done well tt e
change-keeps parts limit t (Hard_link base old new) done well e = link-keeps parts limit t base old new done well e
change-keeps parts limit t (Symlink base text path) done well e = symlink-keeps parts limit t base text path done well e
change-keeps parts limit t (Unlink base path) done well e = unlink-keeps limit t base path done well e
change-keeps parts limit t (Rmdir base path) done well e = rmdir-keeps limit t base path done well e
change-keeps parts limit t (Rename base old new flags) done well e = rename-keeps parts limit t base old new flags done well e

settled-keeps : (limit : ℕ) (t : Tree) (change : Change) → IsWellFormed t → ((done : Answer × Tree) → change ≡ Ok done → IsKept limit t done.1) → IsKept limit t (settled t change).1
settled-keeps limit t (Ok done) well so = so done refl
settled-keeps limit t (Err refusal) well so = (well, λ within. within)

tree-kept : PartsAreNamesOrDots → (limit : ℕ) (t : Tree) (request : Request) → IsWellFormed t → IsKept limit t (tree_after limit t request)
tree-kept parts limit t request well = settled-keeps limit t (change_of limit t request) well (λ done. change-keeps parts limit t request done well)

pub well_formed-kept : PartsAreNamesOrDots → KeepsTreesWellFormed
well_formed-kept parts limit t request well = let kept = tree-kept parts limit t request well in kept.0

pub within-kept : PartsAreNamesOrDots → KeepsWithinLimit
within-kept parts limit t request well within = let kept = tree-kept parts limit t request well in kept.1 within

pub runs-kept : PartsAreNamesOrDots → KeepsRunsWellFormed
runs-kept parts limit t [] well = well
runs-kept parts limit t (request ∷ requests) well = runs-kept parts limit (tree_after limit t request) requests (well_formed-kept parts limit t request well)

pub runs-within : PartsAreNamesOrDots → KeepsRunsWithinLimit
runs-within parts limit t [] well within = within
runs-within parts limit t (request ∷ requests) well within =
    runs-within parts limit (tree_after limit t request) requests (well_formed-kept parts limit t request well) (within-kept parts limit t request well within)
