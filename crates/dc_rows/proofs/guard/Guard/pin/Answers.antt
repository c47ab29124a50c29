use Rattle.std.proofs.Common.{refl, ap, subst, ◌≡◌, ℕ, Option, Ok}
use Rattle.dc_plain.specs.KeysShown.{key_shown}
use Rattle.dc_shrink.specs.Listings.{pinned_once}
use Rattle.dc_shrink.specs.Uses.{KeepsUse}
use Rattle.dc_table.specs.declared.table.Guarded.{Guarded}
use Rattle.dc_rows.specs.Guards.{rows_at, rows_of}
use Rattle.dc_rows.specs.RowChanges.{Gets}
use Rattle.dc_rows.proofs.Held.{home_is, home_used, pin_rows}
use Rattle.dc_rows.proofs.Pinning.{gets_pin}
use Rattle.dc_rows.proofs.guard.Guard.pin.Goals as goal

pub invariant_of-self : goal.invariant_of-self
invariant_of-self c = let g = c.fill.new.self in let k = c.deref_mut.result.now in let e = c.deref_mut.ensures.value in let p = c.pin in record {
  rests = home_used _ _ _ _ k (record k { shrinker = p.new.self }) (home_is g.holder.pass.now e g.rests) (record { tree = refl; clock = refl; same_limit = refl }) refl p.ensures.same_use
      (pin_rows p.result k.shrinker p.new.self c.in-Some.row p.ensures.pinned p.ensures.err);
}

pub returns-in-Ok-clause-rows : goal.returns-in-Ok-clause-rows
returns-in-Ok-clause-rows c = let key = key_shown c.args.key.now.key in let s = rows_of c.args.self.now in let t = rows_of c.fill.new.self in let k = c.deref_mut.result.now in let e = c.deref_mut.ensures.value in let row = c.in-Some.row in let p = c.pin in
    gets_pin key s t (rows_at c.fill.new.self.holder.pass.now (record k { shrinker = p.new.self })) row (subst (λ (o : Option ℕ). Gets key 0 s t (Ok o)) c.in-Some.is c.in_ok-row.ensures.rows) refl
    (ap (λ (y : Guarded). y.index) e) (subst (λ (y : Guarded). KeepsUse y.shrinker p.new.self) e p.ensures.same_use) (subst (λ (y : Guarded). p.new.self ≡ pinned_once y.shrinker row) e c.in-Ok.ensures.pinned)
