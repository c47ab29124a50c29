use Rattle.std.proofs.Common.{sym, subst, IsSome, ◌∙◌, ap, Option as Maybe}
use Rattle.dc_table.specs.Boxes.{Boxed}
use Rattle.dc_table.proofs.Ending.{ends, boxed_ends}
use Rattle.dc_table.proofs.shared.Shared.close.Goals as goal

pub returns-then-lock-ne-FREE-clause-whole : goal.returns-then-lock-ne-FREE-clause-whole
returns-then-lock-ne-FREE-clause-whole c = let e = ends c.records_are_legal.ensures _ _ _ _ _ c.close_with-closed.ensures.values.2 _ _ c.word-lock.ensures c.take-guarded.ensures.value in
    λ whole. absurd (c.if-lock-ne-FREE.true (e.1 whole c.requires.pass.1.free))

pub returns-in-Some-clause-tree : goal.returns-in-Some-clause-tree
returns-in-Some-clause-tree c = let e = ends c.records_are_legal.ensures _ _ _ _ _ c.close_with-closed.ensures.values.2 _ _ c.word-lock.ensures c.take-guarded.ensures.value in
    boxed_ends _ _ _ _ _ _ (e.0 c.if-lock-ne-FREE.false).0 c.in-Some.is c.into_inner.ensures (ap (λ k. k.max_inodes) (sym c.args.self.limits_are) ∙ sym c.requires.pass.0.limit)

pub returns-clause-whole : goal.returns-clause-whole
returns-clause-whole c = let e = ends c.records_are_legal.ensures _ _ _ _ _ c.close_with-closed.ensures.values.2 _ _ c.word-lock.ensures c.take-guarded.ensures.value in
    λ whole. subst (λ (o : Maybe Boxed). IsSome o) c.in-None.is (e.0 c.if-lock-ne-FREE.false).1
