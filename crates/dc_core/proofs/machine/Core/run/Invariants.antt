use Rattle.std.proofs.Common.{◌≡◌, take, map}
use Rattle.dc_core.specs.Listed.{AllDone}
use Rattle.dc_core.specs.Machine.{after_all}
use Rattle.dc_core.specs.Shown.{event_shown}
use Rattle.dc_core.proofs.machine.Core.run.Given as goal

abbrev pub invariant-loop-event : goal.invariant-loop-event
invariant-loop-event l = record {
  place : l.place ≡ l.event-index;
  state : l.self ≡ after_all l.initial.self (take l.event-index (map event_shown l.events));
  done : AllDone l.initial.self (take l.event-index (map event_shown l.events));
}
