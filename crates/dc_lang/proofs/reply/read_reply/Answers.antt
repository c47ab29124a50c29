use Rattle.dc_lang.proofs.Responses.{tells_what_is_read, bad_tells_nothing}
use Rattle.dc_lang.proofs.reply.read_reply.Goals as goal

pub returns-clause-ok : goal.returns-clause-ok
returns-clause-ok c = tells_what_is_read c.args.line.now c.response_in.result c.response_in.ensures

pub returns-clause-bad : goal.returns-clause-bad
returns-clause-bad c = bad_tells_nothing c.args.line.now c.response_in.result c.response_in.ensures
