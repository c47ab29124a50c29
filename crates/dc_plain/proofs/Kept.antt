-- Calls that change nothing and calls that make an inode keep a tree well formed.
use Rattle.std.proofs.Common.{subst, ◌≡◌, ℕ, List, Bool, false, Result, Ok, Err, is_ok, IsTrue, refl, arith}
use Rattle.dc_names.specs.Laws.{PartsAreNamesOrDots}
use Rattle.dc_names.specs.declared.refusal.Refusal.{Refusal}
use Rattle.dc_plain.specs.Trees.{Tree, Inode}
use Rattle.dc_plain.specs.Trees.Inode.{Symbolic}
use Rattle.dc_plain.specs.Requests.{Answer}
use Rattle.dc_names.specs.Paths.{Path, path_of}
use Rattle.dc_plain.specs.Refusals.{path_or_fault}
use Rattle.dc_plain.specs.Operations.{make, symlink, left_alone}
use Rattle.dc_plain.specs.IsWellFormed.{IsWellFormed, IsWithin}
use Rattle.dc_plain.proofs.Made.{with_new-IsWellFormed, IsGood, length_new}
use Rattle.dc_plain.proofs.Found.{makes}
use Rattle.dc_plain.proofs.Chains.{after, left_with}
use Rattle.dc_plain.proofs.Spotted.{path_is}

-- the tree that is left is well formed, and within the limit if the first one was
abbrev pub IsKept : ℕ → Tree → Tree → Type 0
IsKept limit t left = IsWellFormed left × (IsWithin limit t → IsWithin limit left)

good_text : (text : List ℕ) (path : Path) → path_or_fault text ≡ Ok path → IsTrue (is_ok (path_of text))
good_text text path e = rw (path_is (path_of text) path e) refl

pub make-keeps : PartsAreNamesOrDots → (limit : ℕ) (t : Tree) (base : ℕ) (text : List ℕ) (may : Bool) (inode : Inode) (done : Answer × Tree)
    → IsWellFormed t → IsGood inode → make limit t base text may inode ≡ Ok done → IsKept limit t done.1
make-keeps parts limit t base text may inode done well good e =
    let m = makes parts limit t base text may inode done well e in
    let one_more = length_new t m.d m.name inode well m.held m.free in
    let room = m.room in
    subst (IsKept limit t) m.left (with_new-IsWellFormed t m.d m.name inode well m.held m.free good m.named m.low, λ within. omega arith)

pub symlink-keeps : PartsAreNamesOrDots → (limit : ℕ) (t : Tree) (base : ℕ) (text path : List ℕ) (done : Answer × Tree) → IsWellFormed t → symlink limit t base text path ≡ Ok done → IsKept limit t done.1
symlink-keeps parts limit t base text path done well e =
    after (path_or_fault text) _ done e (λ link_path good e. make-keeps parts limit t base path false (Symbolic text) done well (good_text text link_path good) e)

pub reads-keeps : (limit : ℕ) (t : Tree) (answered : Result Answer Refusal) (done : Answer × Tree) → IsWellFormed t → left_alone t answered ≡ Ok done → IsKept limit t done.1
reads-keeps limit t (Ok answer) done well e = left_with (IsKept limit t) answer t done e (well, λ within. within)
reads-keeps limit t (Err refusal) done well e = absurd cc
