use Rattle.std.proofs.Common.{◌≡◌, ◌++◌, map, drop}
use Rattle.dc_plain.specs.Plain.{inode_shown}
use Rattle.dc_plain.proofs.holding.copy_inodes.Given as goal

abbrev pub invariant-loop-inode : goal.invariant-loop-inode
invariant-loop-inode l = map inode_shown l.copies.items ++ map inode_shown (drop l.inode-index l.inodes) ≡ map inode_shown l.inodes
