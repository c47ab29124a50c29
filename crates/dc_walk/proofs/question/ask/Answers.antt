use Rattle.std.proofs.Common.{◌<◌, List, length, sym, ◌∙◌, subst}
use Rattle.dc_plain.specs.KeysShown.{key_shown}
use Rattle.dc_names.specs.declared.limits.TheConstants.{MOST_USED}
use Rattle.dc_walk.specs.Becomings.{goes_so, stops_so}
use Rattle.dc_walk.specs.Rooms.{key_bytes, Used}
use Rattle.dc_walk.proofs.Questions.{ask_still, stops, full_cause, looked_cause, answered_becomes, within_full, within_two, is_below}
use Rattle.dc_walk.proofs.Rooms.{keeps_from, place_still}
use Rattle.dc_walk.proofs.Sighted.{looks_still}
use Rattle.dc_walk.proofs.Standing.{number-same}
use Rattle.dc_walk.proofs.Turns.{had_none, answered_pinned, stopped_pinned}
use Rattle.dc_walk.proofs.question.ask.Goals.{then-rows+else-is_full-2, else-rows}
use Rattle.dc_walk.proofs.question.ask.Goals as goal

pub seek_row-requires-clause-may : goal.seek_row-requires-clause-may
seek_row-requires-clause-may g c = let had = c.have.ensures.had in let may = ask_still had c.requires.may in
    let below = is_below _ _ (sym c.is_full.ensures.full ∙ c.if-is_full.false) c.is_full.ensures.fits in
    record { finding = may.good.finding; place = place_still {r = c.args.rows.now.used.now} had.used had.spent (record { some = below; words = c.requires.words }); needed = may.needed; untold = may.untold }

pub returns-then-is_full-clause-stops : goal.returns-then-is_full-clause-stops
returns-then-is_full-clause-stops g c = let f = c.args.rows.now in let is = c.requires.may.good.finding in
    stops g.S.Source.locks (looks_still f) c.requires.may 0 is (within_full f is.few) _ (λ free tells. full_cause f 0 is (number-same _ _ (sym c.is_full.ensures.full ∙ c.if-is_full.true)))

pub returns-in_default-clause-stops : goal.returns-in_default-clause-stops
returns-in_default-clause-stops g c = let had = c.have.ensures.had in let may = ask_still had c.requires.may in let is = may.good.finding in
    stops_so g.S.Source.locks _ _ _ _ had.becomes (stops g.S.Source.locks (looks_still c.have.new.rows) may 0 is (within_full c.have.new.rows is.few) _ (λ free tells. let locks = c.in_default.ensures.refused in absurd cc))

pub returns-in-Ok-seek_row-clause-stops : goal.returns-in-Ok-seek_row-clause-stops
returns-in-Ok-seek_row-clause-stops g c = let had = c.have.ensures.had in let e = c.in-Ok-seek_row.ensures in let is = e.seeks.0.answers.finding in
    stops_so g.S.Source.locks _ _ _ _ had.becomes (stops g.S.Source.locks e.on (ask_still had c.requires.may) 0 is (within_full c.seek_row.new.rows is.few) _
    (λ free tells. full_cause c.seek_row.new.rows 0 is (number-same _ _ (sym c.is_full-then-rows.ensures.full ∙ c.if-is_full-2.true))))

pub returns-in-Ok-2-clause-becomes : goal.returns-in-Ok-2-clause-becomes
returns-in-Ok-2-clause-becomes g c = let e = c.in-Ok-2.ensures in
    goes_so g.S.Source.locks _ _ _ c.have.ensures.had.becomes (answered_becomes g.S.Source.locks e.on _ _ (key_shown c.args.key) e.seeks.0.answers
    (λ slow. elim c.if-rows.branch [
      | then-rows+else-is_full-2 w ↦ is_below _ _ (sym w.is_full-then-rows.ensures.full ∙ w.if-is_full-2.false) w.is_full-then-rows.ensures.fits
      | else-rows w ↦ let never = sym slow ∙ w.if-rows.false in absurd cc
    ]))

pub returns-in-Err-clause-stops : goal.returns-in-Err-clause-stops
returns-in-Err-clause-stops g c = let had = c.have.ensures.had in let may = ask_still had c.requires.may in let e = c.in-Err.ensures in let gives = e.seeks.1 in let lane = c.in-Ok.ensures.rows in
    let room = subst (λ (us : List Used). length us < MOST_USED) (sym (gives.used ∙ had.used)) (is_below _ _ (sym c.is_full.ensures.full ∙ c.if-is_full.false) c.is_full.ensures.fits) in
    stops_so g.S.Source.locks _ _ _ _ had.becomes (stops g.S.Source.locks e.on may gives.looks gives.finding (within_two c.seek_row.new.rows gives.looks room gives.few) _
    (λ free tells. looked_cause e.on.same c.in-Ok.lane (key_shown c.args.key) c.in-Err.odd c.len-answered.result c.why_of.result gives.looks (sym gives.used) c.len-answered.ensures.many (lane.bucket free)
    (e.looked (sym e.on.same.brief ∙ tells)) c.why_of.ensures gives.finding may.needed may.untold))

pub returns-in_default-clause-pins : goal.returns-in_default-clause-pins
returns-in_default-clause-pins g c = λ locks before is. let lane = c.in_default.ensures.pins locks in had_none before c.args.rows.now c.have.new.rows c.have.ensures.had.used lane.once is lane.pins

pub returns-in-Ok-seek_row-clause-pins : goal.returns-in-Ok-seek_row-clause-pins
returns-in-Ok-seek_row-clause-pins g c = λ locks before is. let e = c.in-Ok-seek_row.ensures in answered_pinned before c.args.rows.now c.have.new.rows c.seek_row.new.rows c.in-Ok.lane c.have.ensures.had.used (c.in-Ok.ensures.pins locks) e.on.untried is (key_shown c.args.key) _ _ e.seeks.0

pub returns-in-Ok-2-clause-pins : goal.returns-in-Ok-2-clause-pins
returns-in-Ok-2-clause-pins g c = λ locks before is. let e = c.in-Ok-2.ensures in answered_pinned before c.args.rows.now c.have.new.rows c.seek_row.new.rows c.in-Ok.lane c.have.ensures.had.used (c.in-Ok.ensures.pins locks) e.on.untried is (key_shown c.args.key) _ _ e.seeks.0

pub returns-in-Err-clause-pins : goal.returns-in-Err-clause-pins
returns-in-Err-clause-pins g c = λ locks before is. let e = c.in-Err.ensures in stopped_pinned before c.args.rows.now c.have.new.rows c.seek_row.new.rows c.in-Ok.lane c.have.ensures.had.used (c.in-Ok.ensures.pins locks) e.on.untried is e.seeks.1.used _ c.head.ensures

pub returns-in-Ok-2-clause-keeps : goal.returns-in-Ok-2-clause-keeps
returns-in-Ok-2-clause-keeps g c = let had = c.have.ensures.had in keeps_from c.args.rows.now.used.now c.have.new.rows.used.now c.seek_row.new.rows.used.now (key_bytes (key_shown c.args.key).label) had.used had.spent c.in-Ok-2.ensures.seeks.0.answers.keeps
