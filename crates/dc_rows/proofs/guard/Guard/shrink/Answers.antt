use Rattle.std.proofs.Common.{◌∙◌, subst, nat_eq}
use Rattle.std.specs.List.{IsDistinct}
use Rattle.dc_table.specs.declared.table.Guarded.{Guarded}
use Rattle.dc_rows.specs.Guards.{rows_of}
use Rattle.dc_rows.proofs.Held.{keeps_then, last_so}
use Rattle.dc_rows.proofs.Placed.{victim_keyed}
use Rattle.dc_rows.proofs.SameRows.{emptied_more, some_more}
use Rattle.dc_rows.proofs.guard.Guard.shrink.Goals as goal

pub evict-requires : goal.evict-requires
evict-requires c = let l = c.loop-emptied.self in let x = l.guarded.value in
    record { key = victim_keyed x.index x.shrinker c.in-Some.row l.rests.rest.fit.agree (last_so c.victim.ensures.victim c.deref.ensures c.in-Some.is) }

pub loop-emptied-preserved : goal.loop-emptied-preserved
loop-emptied-preserved c = let l = c.loop-emptied in let i = l.invariant in let s = rows_of c.args.self.now in let t = rows_of l.self in let u = rows_of c.evict.new.self in
    let last = last_so c.victim.ensures.victim c.deref.ensures c.in-Some.is in
    let distinct = subst (λ (y : Guarded). IsDistinct nat_eq y.shrinker.listed) c.deref.ensures c.victim.ensures.valid.distinct in record {
      same_reference = c.evict.ensures.same_reference ∙ i.same_reference;
      keeps = keeps_then c.args.self.now l.self c.evict.new.self i.keeps c.evict.ensures.keeps;
      some = some_more l.emptied s t u c.in-Some.row i.rows i.some distinct last c.evict.ensures.rows;
      rows = emptied_more l.emptied s t u c.in-Some.row i.rows i.some distinct last c.evict.ensures.rows;
    }
