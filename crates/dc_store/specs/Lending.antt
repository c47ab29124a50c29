-- Inodes, where a `&mut` to one of them is returned.
use Rattle.std.specs.Prelude.{ℕ, List, Option}
use Rattle.std.specs.Borrow.{LendsIf, MutBor, Fml}
use Rattle.std.specs.FinMap.Entries.{put}
use Rattle.std.specs.Ordering.{nat_cmp}
use Rattle.dc_store.specs.declared.inode.Inode.{Inode}
use Rattle.dc_store.specs.contracts.inode.Inode.{the_row as inode_row}
use Rattle.dc_store.specs.contracts.inodes.Inodes.{the_row}

-- once the borrow r ends, if r is one, the number has the inode that was last written through it; at `None` nothing changes
abbrev pub LendsInodeIf : MutBor (List (ℕ × Inode)) → ℕ → Option (MutBor Inode) → Fml
LendsInodeIf s n r = LendsIf the_row inode_row s r (λ w. put nat_cmp n w s.now) s.now
