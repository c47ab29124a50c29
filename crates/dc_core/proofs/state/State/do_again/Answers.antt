use Rattle.dc_core.specs.Shown.{state_of}
use Rattle.dc_events.specs.Walks.{walk_again}
use Rattle.dc_core.proofs.Acted.{acted}
use Rattle.dc_core.proofs.state.State.do_again.Goals as goal

pub returns : goal.returns
returns c = let s = c.args.self.now in let us = s.actors.items in let j = c.args.actor in let one = c.index_mut.result.now in
    λ i. record (state_of s) { actors = acted us j one c.again.new.self (λ a. record a { walk = walk_again a.walk }) c.requires c.index_mut.ensures.value c.again.ensures i }
