use Rattle.std.proofs.Common.{option_map}
use Rattle.dc_core.specs.Machine.{walking}
use Rattle.dc_core.specs.Machine.Act.{Check}
use Rattle.dc_core.specs.Shown.{state_of}
use Rattle.dc_events.specs.Walks.{walk_marked}
use Rattle.dc_plain.specs.Requests.{answer_of}
use Rattle.dc_core.proofs.Acted.{room, always_err}
use Rattle.dc_core.proofs.Recorded.{unturned, turned}
use Rattle.dc_core.proofs.Ready.{check_ready}
use Rattle.dc_core.proofs.state.State.do_check.Goals as goal

pub check-requires-clause-spelled : goal.check-requires-clause-spelled
check-requires-clause-spelled c = check_ready c.args.self.now c.args.actor c.index_mut-one.result.now c.index_mut-one.ensures.value c.requires.lives c.args.i c.requires.may

pub returns-in_err-reply-clause-err : goal.returns-in_err-reply-clause-err
returns-in_err-reply-clause-err c = let s = c.args.self.now in let j = c.args.actor in
    always_err c.from_residual-in_err-reply.result _ (unturned (state_of s) s.actors.items j c.index_mut-one.result.now (room s j (Check c.args.i) c.requires.may) c.index_mut-one.ensures.value c.check.new.self s.finished.items c.reserve.new.self.items c.in_err-reply.ensures.err c.in_ok-reserve.ensures.items)

pub returns-clause-done : goal.returns-clause-done
returns-clause-done c = let s = c.args.self.now in let j = c.args.actor in
    turned (state_of s) s.actors.items j c.index_mut-one.result.now (room s j (Check c.args.i) c.requires.may) c.index_mut-one.ensures.value c.check.new.self c.conclude.new.one (λ b. walking b (walk_marked b.walk c.args.i)) s.finished.items c.reserve.new.self.items
    c.conclude.new.finished.items (option_map answer_of c.in_ok-reply.reply) c.in_ok-reply.ensures.done c.in_ok-reply.ensures.reply c.conclude.ensures.actor c.in_ok-reserve.ensures.items c.conclude.ensures.record_made
