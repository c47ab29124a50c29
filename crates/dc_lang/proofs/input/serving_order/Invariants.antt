use Rattle.std.proofs.Common.{◌≡◌, ◌++◌, drop, map}
use Rattle.dc_lang.specs.Commands.{meaning_of}
use Rattle.dc_lang.specs.Phases.{ordered, phases, served_from}
use Rattle.dc_lang.specs.Served.{all_served}
use Rattle.dc_lang.proofs.input.serving_order.Given as goal

-- the commands so far, and those of the phases that are left, are all
abbrev pub invariant-loop-phase : goal.invariant-loop-phase
invariant-loop-phase l = all_served l.served.items ++ served_from l.phase (map (λ part. ordered part.now) (drop l.phase l.part-items)) ≡ served_from 0 (phases (map meaning_of l.lines))
