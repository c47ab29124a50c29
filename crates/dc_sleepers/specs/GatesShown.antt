-- A gate is seen as the plain data that it holds.
use Rattle.dc_sleepers.specs.Gates.{State}
use Rattle.dc_sleepers.specs.GateSound.{IsSound}
use Rattle.dc_sleepers.specs.declared.passing.State as rust_state
use Rattle.dc_sleepers.specs.declared.gate.Gate.TheInside.{Inside}

abbrev pub shown : rust_state.State → State
shown s = record { is_held = s.is_held; sleepers = s.sleepers; calls = s.calls; tickets = s.tickets; served = s.served; threads = s.threads.items }

abbrev pub state_in : Inside → State
state_in gate = shown gate.state

abbrev pub IsKept : Inside → Type 0
IsKept gate = IsSound (shown gate.state)
