use Rattle.std.proofs.Common.{arith, map, rules}
use Rattle.dc_core.specs.Shown.{event_shown}
use Rattle.dc_core.proofs.Ran.{goes_on, stops_there, spanned_to, spanned_past}
use Rattle.dc_core.proofs.machine.Core.run.Goals as goal

pub returns-in-Err-clause-refused : goal.returns-in-Err-clause-refused
returns-in-Err-clause-refused c =
    stops_there c.args.events.now c.loop-event.event-index _ c.loop-event-test.true c.loop-event.self c.follow.new.self c.loop-event.place c.in-Err.refused c.loop-event.invariant.place c.in-Err.ensures.refused c.in-Err.ensures.err

pub returns-in-Err-clause-spans : goal.returns-in-Err-clause-spans
returns-in-Err-clause-spans c = spanned_to c.args.self.now (map event_shown c.args.events.now) c.loop-event.place c.loop-event.event-index c.loop-event.invariant.place c.loop-event.invariant.done

pub loop-event-preserved : goal.loop-event-preserved
loop-event-preserved c = let before = c.loop-event.invariant in
    let now = goes_on c.args.events.now c.loop-event.event-index _ c.loop-event-test.true c.args.self.now c.loop-event.self c.follow.new.self before.state before.done c.in_default.ensures.refused c.in_default.ensures.done in
    record { place = omega (arith, before.place); state = now.0; done = now.1 }

pub returns-clause-spans : goal.returns-clause-spans
returns-clause-spans c = spanned_past c.args.self.now c.args.events.now c.loop-event.event-index (search rules) c.loop-event.invariant.done
