-- A step of one act is one of an act that is the same.
use Rattle.std.proofs.Common.{◌≡◌, ℕ, Bool, sym, subst}
use Rattle.dc_sleepers.specs.declared.lock.Act.{Act}
use Rattle.dc_sleepers.specs.Locks.{State}
use Rattle.dc_sleepers.specs.LockSteps.{Does}
use Rattle.dc_sleepers.specs.declared.gate.Act as gate_act
use Rattle.dc_sleepers.specs.Gates as gate
use Rattle.dc_sleepers.specs.GateSteps as gate_steps

pub by_act : (s : State) (t : ℕ) (act same : Act) (result : Bool) (new : State) → act ≡ same → Does s t same result new → Does s t act result new
by_act s t act same result new e does = subst (λ a. Does s t a result new) (sym e) does

pub gate_by_act : (s : gate.State) (t : ℕ) (act same : gate_act.Act) (result : Bool) (new : gate.State) → act ≡ same → gate_steps.Does s t same result new → gate_steps.Does s t act result new
gate_by_act s t act same result new e does = subst (λ a. gate_steps.Does s t a result new) (sym e) does
