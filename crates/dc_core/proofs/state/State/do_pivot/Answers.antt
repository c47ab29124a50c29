use Rattle.std.proofs.Common.{ap, ◌∙◌, rules, option_map}
use Rattle.dc_core.specs.Machine.{State, clock_of, turning}
use Rattle.dc_core.specs.Machine.Act.{Pivot}
use Rattle.dc_core.specs.Shown.{state_of, actor_shown}
use Rattle.dc_plain.specs.Requests.{answer_of}
use Rattle.dc_core.proofs.Acted.{room, always_err}
use Rattle.dc_core.proofs.Kept.{number}
use Rattle.dc_core.proofs.Recorded.{unturned, turned}
use Rattle.dc_core.proofs.Ready.{pivot_ready}
use Rattle.dc_core.proofs.state.State.do_pivot.Goals as goal

pub turn-requires : goal.turn-requires
turn-requires c = pivot_ready c.args.self.now c.args.actor c.index_mut-one.result.now c.index_mut-one.ensures.value c.requires.lives c.requires.may

pub returns-in_err-reply-clause-err : goal.returns-in_err-reply-clause-err
returns-in_err-reply-clause-err c = let s = c.args.self.now in let j = c.args.actor in
    always_err c.from_residual-in_err-reply.result _ (unturned (state_of s) s.actors.items j c.index_mut-one.result.now (room s j Pivot c.requires.may) c.index_mut-one.ensures.value c.turn.new.self s.finished.items c.reserve.new.self.items c.in_err-reply.ensures.err c.in_ok-reserve.ensures.items)

pub returns-clause-done : goal.returns-clause-done
returns-clause-done c = let s = c.args.self.now in let j = c.args.actor in let S : State = state_of s in let one = c.index_mut-one.result.now in
    let clock = number s.words.items 0 c.index-clock.result.now (search rules) c.index-clock.ensures in
    turned S s.actors.items j one (room s j Pivot c.requires.may) c.index_mut-one.ensures.value c.turn.new.self c.conclude.new.one (λ b. turning b (clock_of S)) s.finished.items c.reserve.new.self.items c.conclude.new.finished.items (option_map answer_of c.in_ok-reply.reply)
    (c.in_ok-reply.ensures.done ∙ ap (turning (actor_shown one)) clock) c.in_ok-reply.ensures.reply c.conclude.ensures.actor c.in_ok-reserve.ensures.items c.conclude.ensures.record_made
