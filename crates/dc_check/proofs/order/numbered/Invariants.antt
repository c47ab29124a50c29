use Rattle.std.proofs.Common.{◌≡◌, ◌++◌, drop}
use Rattle.dc_check.specs.Stamps.{stamps_of}
use Rattle.dc_check.specs.Judges.{all_phased}
use Rattle.dc_check.specs.Phases.{with_phases}
use Rattle.dc_check.proofs.order.numbered.Given as goal

-- the stamps so far, and those that are left
abbrev pub invariant-loop-i : goal.invariant-loop-i
invariant-loop-i l = all_phased l.numbered.items ++ with_phases (drop l.i l.phases) (stamps_of (drop l.i l.stamps)) ≡ with_phases l.phases (stamps_of l.stamps)
