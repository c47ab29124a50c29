use Rattle.std.proofs.Common.{◌≡◌, take}
use Rattle.dc_walk.specs.Unpins.{rows_used}
use Rattle.dc_walk.proofs.counted.unpin.Given as goal

-- the rows so far stand in the list
abbrev pub invariant-loop-at : goal.invariant-loop-at
invariant-loop-at g l = l.rows.items ≡ rows_used (take l.at l.used.items)
