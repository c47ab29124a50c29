use Rattle.std.proofs.Common.{◌≡◌, ◌++◌, map, take, drop}
use Rattle.dc_sleepers.specs.Locks.{roused, is_asleep}
use Rattle.dc_sleepers.proofs.locking.State.rouse.Given as goal

abbrev pub invariant-loop-one : goal.invariant-loop-one
invariant-loop-one l = l.one-items ≡ map (roused is_asleep) (take l.one-index l.initial.one-items) ++ drop l.one-index l.initial.one-items
