use Rattle.std.proofs.Common.{set, rules, true, false}
use Rattle.dc_core.specs.Machine.Act.{Give}
use Rattle.dc_core.specs.Shown.{state_of}
use Rattle.dc_events.specs.Walks.{no_walk}
use Rattle.dc_core.proofs.Acted.{room}
use Rattle.dc_core.proofs.Gives.{answer_leaves}
use Rattle.dc_core.proofs.Kept.{number}
use Rattle.dc_core.proofs.Recorded.{made_on_tree}
use Rattle.dc_core.proofs.Tests.{answer_busy}
use Rattle.dc_core.proofs.state.State.do_answer.Goals as goal

pub returns-clause-done : goal.returns-clause-done
returns-clause-done c = let s = c.args.self.now in let j = c.args.actor in
    made_on_tree s j c.release-call.new.self c.release-call.result c.in_ok-reply.reply (λ clock. set s.words.items 1 0) (λ clock a. record a { walk = no_walk; seen = clock; holds = false })
    (room s j (Give true) c.requires.may) c.index.ensures c.index_mut-2.ensures.value (number s.words.items 0 c.index-clock.result.now (search rules) c.index-clock.ensures) c.release-call.ensures.shown c.release-call.ensures.call
    c.in_ok-reserve.ensures.items c.push_reserved.ensures.items c.in_ok-reply.ensures.reply c.in_ok-reply.ensures.limit c.in_ok-reply.ensures.tree
    (answer_leaves c.same_tree_tells_whether_trees_are_one.ensures (state_of s) j c.requires.may)

pub apply-requires : goal.apply-requires
apply-requires c = answer_busy c.args.self.now c.args.actor c.index.result.now c.requires.may c.index.ensures

pub release-call-requires : goal.release-call-requires
release-call-requires c = answer_busy c.args.self.now c.args.actor c.index_mut-2.result.now c.requires.may c.index_mut-2.ensures.value
