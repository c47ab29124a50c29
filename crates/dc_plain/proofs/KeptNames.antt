-- Calls that give a further name or take one away keep a tree well formed.
use Rattle.std.proofs.Common.{◌≡◌, ℕ, ◌==◌, List, true, false, not, Ok, arith, subst, if◌then◌else◌}
use Rattle.dc_names.specs.Laws.{PartsAreNamesOrDots}
use Rattle.dc_plain.specs.Trees.{Tree, Inode, names_of, without_number}
use Rattle.dc_plain.specs.Requests.{Answer}
use Rattle.dc_plain.specs.Effects.{without_entry}
use Rattle.dc_plain.specs.Operations.{link, unlink, rmdir}
use Rattle.dc_plain.specs.IsWellFormed.{IsWellFormed, IsWithin}
use Rattle.dc_plain.proofs.Takes.{length_kept}
use Rattle.dc_plain.proofs.Linked.{with_entry_for-IsWellFormed}
use Rattle.dc_plain.proofs.Removed.{without_entry-IsWellFormed, left_of}
use Rattle.dc_plain.proofs.Kept.{IsKept}
use Rattle.dc_plain.proofs.Found.{Takes, links, unlinks, rmdirs}

-- no more inodes
pub without_entry-IsWithin : (limit : ℕ) (t : Tree) (d : ℕ) (name : List ℕ) (n : ℕ) → IsWithin limit t → IsWithin limit (without_entry t d name n)
without_entry-IsWithin limit t d name n within =
    let fewer = length_kept (λ (e : ℕ × Inode). not (n == e.0)) t.inodes in
    elim (names_of (left_of t d name t.inodes) n == 0) as (λ b. IsWithin limit (if b then left_of t d name (without_number n t.inodes) else left_of t d name t.inodes)) [
      | true ↦ omega arith
      | false ↦ within
    ]

pub link-keeps : PartsAreNamesOrDots → (limit : ℕ) (t : Tree) (base : ℕ) (old new : List ℕ) (done : Answer × Tree) → IsWellFormed t → link t base old new ≡ Ok done → IsKept limit t done.1
link-keeps parts limit t base old new done well e =
    let l = links parts t base old new done well e in
    subst (IsKept limit t) l.left (with_entry_for-IsWellFormed t l.d l.name l.n l.inode well l.held l.free l.lives l.no_directory l.named l.few, λ within. within)

take-keeps : (limit : ℕ) (t : Tree) (base : ℕ) (text : List ℕ) (u : Tree) → IsWellFormed t → Takes t base text u → IsKept limit t u
take-keeps limit t base text u well takes = subst (IsKept limit t) takes.left
    (without_entry-IsWellFormed t takes.d takes.name takes.n well takes.leads takes.unentered, without_entry-IsWithin limit t takes.d takes.name takes.n)

pub unlink-keeps : (limit : ℕ) (t : Tree) (base : ℕ) (text : List ℕ) (done : Answer × Tree) → IsWellFormed t → unlink t base text ≡ Ok done → IsKept limit t done.1
unlink-keeps limit t base text done well e = take-keeps limit t base text done.1 well (unlinks t base text done well e)

pub rmdir-keeps : (limit : ℕ) (t : Tree) (base : ℕ) (text : List ℕ) (done : Answer × Tree) → IsWellFormed t → rmdir t base text ≡ Ok done → IsKept limit t done.1
rmdir-keeps limit t base text done well e = take-keeps limit t base text done.1 well (rmdirs t base text done well e)
