-- What an act of the core answers and does.
use Rattle.std.specs.Prelude.{◌≡◌, Result, OnOk, OnErr}
use Rattle.dc_core.specs.Machine.{State, Event, after}
use Rattle.dc_core.specs.Memory.{AnsweredAs}
use Rattle.dc_core.specs.declared.refused.Refused as rust_refused

-- refused exactly as the tests say, or out of memory if that may be, and then the state is as it was; else the event is done
pub record Steps {A : Type 0} (old : State) (e : Event) (result : Result A rust_refused.Refused) (new : State) : Type 0 where
  pub refused : AnsweredAs old e result
  pub done : OnOk result (new ≡ after old e)
  pub err : OnErr result (new ≡ old)
