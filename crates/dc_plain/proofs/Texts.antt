-- The texts of links in a well formed tree have no fault.
use Rattle.std.proofs.Common.{◌≡◌, ℕ, List, Option, Some, None, Result, Ok, Err, is_ok, IsTrue, refl}
use Rattle.dc_names.specs.declared.fault.TextFault.{TextFault}
use Rattle.dc_names.specs.Paths.{Path, path_in, path_of, fault_of}
use Rattle.dc_plain.specs.Trees.{Tree, inode_of}
use Rattle.dc_plain.specs.Trees.Inode.{Symbolic}
use Rattle.dc_plain.specs.IsWellFormed.{IsWellFormed}

abbrev path_by : List ℕ → Option TextFault → Result Path TextFault
path_by text None = Ok (path_in text)
path_by text (Some fault) = Err fault

no_fault : (text : List ℕ) → IsTrue (is_ok (path_of text)) → fault_of text ≡ None
no_fault text ok = elim (fault_of text) as (λ o. IsTrue (is_ok (path_by text o)) → o ≡ None) [ None ↦ λ h. refl | Some fault ↦ λ h. cc ] ok

pub link_text : (t : Tree) (n : ℕ) (text : List ℕ) → IsWellFormed t → inode_of t n ≡ Some (Symbolic text) → fault_of text ≡ None
link_text t n text well e = let lives = well.inodes n (Symbolic text) e in no_fault text lives.reached.2
