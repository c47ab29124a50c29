use Rattle.std.proofs.Common.{◌≡◌, length, rules}
use Rattle.dc_core.specs.Machine.{Actor}
use Rattle.dc_core.specs.Shown.{actor_shown}
use Rattle.dc_core.proofs.Acted.{always_err}
use Rattle.dc_core.proofs.NotesRead.{one_read, none_read}
use Rattle.dc_core.proofs.actor.Actor.read.Goals as goal

pub returns-clause-done : goal.returns-clause-done
returns-clause-done c = let notes = c.args.self.now.notes.items in let a : Actor = actor_shown c.args.self.now in
    let len : c.len-last.result ≡ length notes = search rules in
    let new = one_read notes c.len-last.result c.index_mut.result.now c.push.new.self c.args.word len (search rules) c.index_mut.ensures.value c.in_ok-push.ensures.done in
    λ i. record a { walk = record a.walk { notes = new i }; loads = c.in_ok-loads.ensures i }

pub returns-in_err-push-clause-err : goal.returns-in_err-push-clause-err
returns-in_err-push-clause-err c = let notes = c.args.self.now.notes.items in let a : Actor = actor_shown c.args.self.now in
    let same = none_read notes c.len-last.result c.index_mut.result.now c.push.new.self (search rules) c.index_mut.ensures.value c.in_err-push.ensures.err in
    always_err c.from_residual-in_err-push.result _ (λ i. record a { walk = record a.walk { notes = same i } })
