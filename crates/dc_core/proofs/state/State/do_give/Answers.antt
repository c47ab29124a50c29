use Rattle.std.proofs.Common.{set, false}
use Rattle.dc_core.specs.Shown.{state_of}
use Rattle.dc_core.proofs.Acted.{acted}
use Rattle.dc_core.proofs.state.State.do_give.Goals as goal

pub returns : goal.returns
returns c = let s = c.args.self.now in let us = s.actors.items in let j = c.args.actor in let one = c.index_mut-2.result.now in
    λ i. record (state_of s) { words = set s.words.items 1 0; actors = acted us j one (record one { holds = false }) (λ a. record a { holds = false }) c.requires.room c.index_mut-2.ensures.value Rattle.std.proofs.Common.refl i }
