use Rattle.std.proofs.Common.{arith, rules, sym, below_none, below_more}
use Rattle.dc_rows.specs.Guards.{kept_by}
use Rattle.dc_walk.proofs.Fronts.{IsTrueAt, may_check, still_again, true_so}
use Rattle.dc_walk.proofs.placing.are_as_noted.Goals as goal

pub loop-c-init : goal.loop-c-init
loop-c-init c = record { still = search rules; told = below_none (IsTrueAt (kept_by c.args.guard.now).store c.args.room.now) }

pub is_as_noted-requires : goal.is_as_noted-requires
is_as_noted-requires c = record { noted = may_check c.requires.noted c.loop-c.invariant.still.holder.same_known c.loop-c.c (omega (arith, c.loop-c-test.true)) c.place_at.ensures c.row_at.ensures c.count_at.ensures }

pub loop-c-preserved : goal.loop-c-preserved
loop-c-preserved c = let i = c.loop-c.invariant in let e = c.is_as_noted.ensures in record {
  still = still_again i.still e.same;
  told = below_more (IsTrueAt (kept_by c.args.guard.now).store c.args.room.now) c.loop-c.c i.told
      (true_so c.requires.noted c.words_have_the_fact_they_spell.ensures (sym c.args.guard.now.rests.tree) i.still.holder.same_known c.loop-c.c (omega (arith, c.loop-c-test.true)) c.place_at.ensures (e.now c.if-not-is_as_noted.false));
}

pub returns-clause-told : goal.returns-clause-told
returns-clause-told c all = λ j less. c.loop-c.invariant.told j (omega (arith, c.loop-c-test.false, less))
