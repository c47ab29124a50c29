use Rattle.std.proofs.Common.{ap, ◌∙◌}
use Rattle.dc_core.specs.Machine.{actor_at, walking, next_word}
use Rattle.dc_core.specs.Machine.Act.{Read}
use Rattle.dc_core.specs.Shown.{state_of, actor_shown}
use Rattle.dc_events.specs.Walks.{walk_read}
use Rattle.dc_core.proofs.Acted.{acted, unacted, room, on_ok, on_err}
use Rattle.dc_core.proofs.state.State.do_read.Goals as goal

pub returns-clause-done : goal.returns-clause-done
returns-clause-done c = let s = c.args.self.now in let us = s.actors.items in let j = c.args.actor in let one = c.index_mut.result.now in let less = room s j Read c.requires.may in
    on_ok c.read.result _ _ (λ shown. λ i. record (state_of s) {
      actors = acted us j one c.read.new.self (λ a. walking a (walk_read a.walk (next_word (state_of s) (actor_at (state_of s) j).walk))) less c.index_mut.ensures.value
          (shown ∙ ap (λ n. walking (actor_shown one) (walk_read (actor_shown one).walk n)) c.next_word-word.ensures) i;
    }) c.read.ensures.done

pub returns-clause-err : goal.returns-clause-err
returns-clause-err c = let s = c.args.self.now in let us = s.actors.items in let j = c.args.actor in let one = c.index_mut.result.now in let less = room s j Read c.requires.may in
    on_err c.read.result _ _ (λ shown. λ i. record (state_of s) { actors = unacted us j one c.read.new.self less c.index_mut.ensures.value shown i }) c.read.ensures.err
