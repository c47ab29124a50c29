use Rattle.std.proofs.Common.{subst}
use Rattle.dc_walk.specs.Seeks.{LooksOn}
use Rattle.dc_walk.specs.declared.rows.Rows.{Rows}
use Rattle.dc_walk.proofs.Sighted.{looks_again}
use Rattle.dc_walk.proofs.bucket.seek_row.Goals.{then-not-rows+in-Err-2, else-not-rows}
use Rattle.dc_walk.proofs.bucket.seek_row.Goals as goal

pub returns-clause-on : goal.returns-clause-on
returns-clause-on c = elim c.if-not-rows.branch [
  | then-not-rows+in-Err-2 w ↦ looks_again w.ask_rows.ensures.on (subst (λ (f : Rows). LooksOn f c.look_whole.new.rows) w.rows-is c.look_whole.ensures.on)
  | else-not-rows w ↦ subst (λ (f : Rows). LooksOn f c.look_whole.new.rows) w.rows-is c.look_whole.ensures.on
]
