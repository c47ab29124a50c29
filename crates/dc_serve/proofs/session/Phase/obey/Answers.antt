use Rattle.std.proofs.Common.{rules}
use Rattle.dc_cache.specs.Passes.{view}
use Rattle.dc_lang.specs.Commands.{order_of}
use Rattle.dc_plain.specs.Requests.{answer_of}
use Rattle.dc_serve.specs.Sessions.{progress}
use Rattle.dc_serve.proofs.Strands.{obeyed_one}
use Rattle.dc_serve.proofs.session.Phase.obey.Goals as goal

pub returns-clause-ok : goal.returns-clause-ok
returns-clause-ok g c =
    let replies = c.args.replies.now in
    let stamped = c.in_ok-stamped.stamped in
    obeyed_one (view c.args.pass.now) (view c.answer.new.pass) (progress replies.text.items replies.base) (order_of c.args.command.now) _ (answer_of stamped.reply) stamped.at c.in_ok-line.line.items _ _
    c.call.ensures c.in_ok-stamped.ensures.ok (search rules) (search rules) (search rules)
