use Rattle.std.proofs.Common.{ap, ◌∙◌, set, rules, true}
use Rattle.dc_core.specs.Machine.{clock_of}
use Rattle.dc_core.specs.Shown.{state_of, actor_shown}
use Rattle.dc_core.proofs.Acted.{acted}
use Rattle.dc_core.proofs.Kept.{number}
use Rattle.dc_core.proofs.state.State.do_take.Goals as goal

pub returns : goal.returns
returns c = let s = c.args.self.now in let us = s.actors.items in let j = c.args.actor in let one = c.index_mut-2.result.now in
    let clock = number s.words.items 0 c.index-clock.result.now (search rules) c.index-clock.ensures in
    let shown = c.take.ensures ∙ ap (λ n. record (actor_shown one) { holds = true; seen = n }) clock in
    λ i. record (state_of s) { words = set s.words.items 1 1; actors = acted us j one c.take.new.self (λ a. record a { holds = true; seen = clock_of (state_of s) }) c.requires.room c.index_mut-2.ensures.value shown i }
