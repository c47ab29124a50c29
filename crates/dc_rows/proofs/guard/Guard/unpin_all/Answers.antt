use Rattle.std.proofs.Common.{refl, ◌∙◌, take_all, arith}
use Rattle.dc_rows.specs.Guards.{rows_of}
use Rattle.dc_rows.proofs.Held.{keeps_then}
use Rattle.dc_rows.proofs.Pinning.{unpins_more, unpins_all}
use Rattle.dc_rows.proofs.guard.Guard.unpin_all.Goals as goal

pub loop-row-preserved : goal.loop-row-preserved
loop-row-preserved c = let l = c.loop-row in let i = l.invariant in record {
  same_reference = c.unpin.ensures.same_reference ∙ i.same_reference;
  keeps = keeps_then c.args.self.now l.self c.unpin.new.self i.keeps c.unpin.ensures.keeps;
  rows = unpins_more c.args.rows.now l.row-index _ c.loop-row-test.true refl (rows_of c.args.self.now) (rows_of l.self) (rows_of c.unpin.new.self) i.rows c.unpin.ensures.rows;
}

pub returns-clause-rows : goal.returns-clause-rows
returns-clause-rows c = let l = c.loop-row in unpins_all c.args.rows.now (rows_of c.args.self.now) (rows_of l.self) l.row-index (take_all l.row-index c.args.rows.now (omega (arith, c.loop-row-test.false))) l.invariant.rows
