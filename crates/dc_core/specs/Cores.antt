-- A core is seen as the state that it holds, which keeps the rule.
use Rattle.dc_core.specs.Machine.{State}
use Rattle.dc_core.specs.Lives.{Lives}
use Rattle.dc_core.specs.Shown.{state_of}
use Rattle.dc_core.specs.declared.machine.Core.TheInside.{Inside}

abbrev pub state_in : Inside → State
state_in c = state_of c.state

abbrev pub IsAlive : Inside → Type 0
IsAlive c = Lives (state_of c.state)
