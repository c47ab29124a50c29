use Rattle.std.proofs.Common.{◌≡◌, ◌++◌, map, take, drop}
use Rattle.dc_sleepers.specs.Locks.{roused, is_kept}
use Rattle.dc_sleepers.proofs.locking.State.pass_on.Given as goal

abbrev pub invariant-loop-one : goal.invariant-loop-one
invariant-loop-one l = l.one-items ≡ map (roused is_kept) (take l.one-index l.initial.one-items) ++ drop l.one-index l.initial.one-items
