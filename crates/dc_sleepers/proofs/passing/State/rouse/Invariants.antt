use Rattle.std.proofs.Common.{◌≡◌, ◌++◌, map, take, drop}
use Rattle.dc_sleepers.specs.Gates.{roused}
use Rattle.dc_sleepers.proofs.passing.State.rouse.Given as goal

abbrev pub invariant-loop-one : goal.invariant-loop-one
invariant-loop-one l = l.one-items ≡ map (roused l.calls) (take l.one-index l.initial.one-items) ++ drop l.one-index l.initial.one-items
