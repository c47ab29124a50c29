use Rattle.std.proofs.Common.{ap, ◌∙◌}
use Rattle.dc_core.specs.Shown.{state_of, actor_shown}
use Rattle.dc_plain.specs.Requests.{request_of}
use Rattle.dc_events.specs.Walks.{walk_begun}
use Rattle.dc_core.proofs.Acted.{acted}
use Rattle.dc_core.proofs.state.State.do_begin.Goals as goal

pub returns-clause-done : goal.returns-clause-done
returns-clause-done c = let s = c.args.self.now in let us = s.actors.items in let j = c.args.actor in let one = c.index_mut.result.now in
    let shown = c.begin.ensures ∙ ap (λ r. record (actor_shown one) { walk = walk_begun r }) c.in_ok-call.ensures in
    λ i. record (state_of s) { actors = acted us j one c.begin.new.self (λ a. record a { walk = walk_begun (request_of c.args.call.now) }) c.requires c.index_mut.ensures.value shown i }
