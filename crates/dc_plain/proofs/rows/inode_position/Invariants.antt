use Rattle.std.proofs.Common.{◌≡◌, ◌+◌, ◌-◌, ◌≤◌, length, map, drop}
use Rattle.std.specs.Ordering.{nat_cmp}
use Rattle.dc_plain.specs.Plain.{inode_shown, position_by}
use Rattle.dc_plain.proofs.rows.inode_position.Given as goal

abbrev pub invariant-inodes : goal.invariant-inodes
invariant-inodes l =
    let against = nat_cmp l.number in
    record {
      within : l.at ≤ length l.inodes;
      rest : l.at + position_by against (map inode_shown (drop l.at l.inodes)) ≡ position_by against (map inode_shown l.inodes);
    }

abbrev pub decreases-inodes : goal.decreases-inodes
decreases-inodes l = length l.inodes - l.at
