use Rattle.dc_core.specs.Shown.{state_of}
use Rattle.dc_events.specs.Walks.{no_walk}
use Rattle.dc_core.proofs.Acted.{acted}
use Rattle.dc_core.proofs.state.State.do_quit.Goals as goal

pub returns : goal.returns
returns c = let s = c.args.self.now in let us = s.actors.items in let j = c.args.actor in let one = c.index_mut.result.now in
    λ i. record (state_of s) { actors = acted us j one c.end-call.new.self (λ a. record a { walk = no_walk }) c.requires.room c.index_mut.ensures.value c.end-call.ensures.walk i }
