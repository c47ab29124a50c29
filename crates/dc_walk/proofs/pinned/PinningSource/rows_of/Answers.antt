use Rattle.std.proofs.Common.{Ok, inl, inr, refl, subst}
use Rattle.dc_rows.specs.RowChanges.{PinsAnswered}
use Rattle.dc_table.specs.Passes.{known}
use Rattle.dc_walk.proofs.Answered.{rests_so}
use Rattle.dc_walk.proofs.pinned.PinningSource.rows_of.Goals as goal

pub returns-in-Some-clause-rests : goal.returns-in-Some-clause-rests
returns-in-Some-clause-rests g c = rests_so c.pin.ensures.rested

pub returns-in-Some-clause-pins : goal.returns-in-Some-clause-pins
returns-in-Some-clause-pins g c locks = let k = known c.pin.new.pass in let p = c.in_ok-first.ensures.pinned in record { once = p.once; pins = inl (refl, subst (λ o. PinsAnswered k.got k.left (Ok o)) c.in-Some.is p.pins) }

pub returns-in-None-clause-pins : goal.returns-in-None-clause-pins
returns-in-None-clause-pins g c locks = let k = known c.pin.new.pass in let p = c.in_ok-first.ensures.pinned in record { once = p.once; pins = inr (refl, subst (λ o. PinsAnswered k.got k.left (Ok o)) c.in-None.is p.pins) }
