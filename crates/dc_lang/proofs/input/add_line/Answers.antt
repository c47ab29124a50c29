use Rattle.std.proofs.Common.{rules}
use Rattle.std.proofs.lemmas.List.{map_push}
use Rattle.dc_lang.proofs.input.add_line.Goals as goal

pub returns-in_ok-push-in-Command : goal.returns-in_ok-push-in-Command
returns-in_ok-push-in-Command c = rw (c.in_ok-push-in-Command.ensures.items, map_push) (search rules)

pub returns-in_default : goal.returns-in_default
returns-in_default c = search rules
