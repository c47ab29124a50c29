use Rattle.std.proofs.Common.{ap, ◌∙◌}
use Rattle.dc_core.specs.Machine.{walking}
use Rattle.dc_core.specs.Machine.Act.{Note}
use Rattle.dc_core.specs.Shown.{state_of, actor_shown}
use Rattle.dc_events.specs.Rows.{count}
use Rattle.dc_events.specs.Walks.{walk_noted}
use Rattle.dc_core.proofs.Acted.{acted, unacted, room, on_ok, on_err}
use Rattle.dc_core.proofs.state.State.do_note.Goals as goal

pub returns-clause-done : goal.returns-clause-done
returns-clause-done c = let s = c.args.self.now in let us = s.actors.items in let j = c.args.actor in let one = c.index_mut.result.now in let less = room s j (Note c.args.row) c.requires.may in
    on_ok c.note.result _ _ (λ shown. λ i. record (state_of s) {
      actors = acted us j one c.note.new.self (λ a. walking a (walk_noted a.walk c.args.row (count s.words.items c.args.row))) less c.index_mut.ensures.value
          (shown ∙ ap (λ n. walking (actor_shown one) (walk_noted (actor_shown one).walk c.args.row n)) c.count-count.ensures) i;
    }) c.note.ensures.done

pub returns-clause-err : goal.returns-clause-err
returns-clause-err c = let s = c.args.self.now in let us = s.actors.items in let j = c.args.actor in let one = c.index_mut.result.now in let less = room s j (Note c.args.row) c.requires.may in
    on_err c.note.result _ _ (λ shown. λ i. record (state_of s) { actors = unacted us j one c.note.new.self less c.index_mut.ensures.value shown i }) c.note.ensures.err
