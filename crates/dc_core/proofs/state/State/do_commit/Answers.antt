use Rattle.std.proofs.Common.{◌+◌, refl, set, rules}
use Rattle.dc_core.specs.Machine.Act.{Commit}
use Rattle.dc_events.specs.Walks.{no_walk}
use Rattle.dc_core.proofs.Acted.{room}
use Rattle.dc_core.proofs.Kept.{number}
use Rattle.dc_core.proofs.Recorded.{made_on_tree}
use Rattle.dc_core.proofs.Tests.{commit_busy}
use Rattle.dc_core.proofs.state.State.do_commit.Goals as goal

pub returns-clause-done : goal.returns-clause-done
returns-clause-done c = let s = c.args.self.now in let j = c.args.actor in
    made_on_tree s j c.finish-call.new.self c.finish-call.result c.in_ok-reply.reply (λ clock. set s.words.items 0 (clock + 1)) (λ clock a. record a { walk = no_walk; seen = clock + 1 })
    (room s j Commit c.requires.may) c.index.ensures c.index_mut-2.ensures.value (number s.words.items 0 c.index-clock.result.now (search rules) c.index-clock.ensures) c.finish-call.ensures.shown c.finish-call.ensures.call
    c.in_ok-reserve.ensures.items c.push_reserved.ensures.items c.in_ok-reply.ensures.reply c.in_ok-reply.ensures.limit c.in_ok-reply.ensures.tree refl

pub apply-requires : goal.apply-requires
apply-requires c = commit_busy c.args.self.now c.args.actor c.index.result.now c.requires.may c.index.ensures

pub finish-call-requires : goal.finish-call-requires
finish-call-requires c = commit_busy c.args.self.now c.args.actor c.index_mut-2.result.now c.requires.may c.index_mut-2.ensures.value
