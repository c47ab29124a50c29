use Rattle.std.proofs.Common.{rules, ap, subst, Ok}
use Rattle.dc_plain.specs.KeysShown.{key_shown}
use Rattle.dc_walk.specs.Sights.{AnswersIn}
use Rattle.dc_walk.proofs.Lookings.{answers_whole}
use Rattle.dc_walk.proofs.bucket.look_whole.Goals as goal

pub returns-in-Ok-clause-seeks : goal.returns-in-Ok-clause-seeks
returns-in-Ok-clause-seeks c = let e = c.in-Ok.ensures in let a = c.args in
    let tells = subst (λ key. AnswersIn a.rows.now key c.ask_rows.new.rows a.lane a.earlier c.in-Ok.at) (ap key_shown c.new-sought.ensures) e.tells in
    (answers_whole a.rows.now c.ask_rows.new.rows (key_shown a.key) a.lane a.earlier e.slow c.requires.early (Ok c.in-Ok.at) tells, search rules)
