use Rattle.std.proofs.Common.{refl, rules, sym, subst, arith, None}
use Rattle.dc_plain.specs.KeysShown.{key_shown}
use Rattle.dc_index.specs.Slots.{IsRowOf}
use Rattle.dc_table.specs.declared.table.Guarded.{Guarded}
use Rattle.dc_shrink.specs.Listings.{dropped}
use Rattle.dc_rows.specs.Guards.{rows_at}
use Rattle.dc_rows.specs.RowChanges.{Gets}
use Rattle.dc_rows.proofs.Held.{home_is, rest_of}
use Rattle.dc_rows.proofs.Placed.{has_empty, has_told}
use Rattle.dc_rows.proofs.Pinning.{gets_chosen}
use Rattle.dc_rows.proofs.guard.Guard.fill_new.Goals as goal

pub fill_given-requires-clause-given : goal.fill_given-requires-clause-given
fill_given-requires-clause-given c = let s = c.args.self.now in let p = s.holder.pass.now in let k = c.deref_mut-kept.result.now in
    record { before_slots = k.index; rest = rest_of p k (home_is p c.deref_mut-kept.ensures.value s.rests); given = c.in_ok-set.ensures.set; inside = c.in-Some.ensures.within; open_still = c.in-Some.ensures.safe.2 }

pub fill_given-requires-clause-has : goal.fill_given-requires-clause-has
fill_given-requires-clause-has c = let s = c.args.self.now in let p = s.holder.pass.now in let k = c.deref_mut-kept.result.now in
    has_told _ _ _ k.index k.shrinker (rest_of p k (home_is p c.deref_mut-kept.ensures.value s.rests)) c.in-Some.row c.rows_end_in_zeros.ensures c.in-Some.ensures.within c.args.words.now (key_shown c.args.key.now.key) c.requires.words _ (omega arith) (omega arith) (omega arith)

pub fill_given-requires-clause-zeros : goal.fill_given-requires-clause-zeros
fill_given-requires-clause-zeros c = let s = c.args.self.now in let p = s.holder.pass.now in let k = c.deref_mut-kept.result.now in
    has_empty _ _ _ k.index k.shrinker (rest_of p k (home_is p c.deref_mut-kept.ensures.value s.rests)) c.in-Some.row c.in-Some.ensures.within _ (omega arith) (omega arith)

pub returns-clause-fills : goal.returns-clause-fills
returns-clause-fills c = let key = key_shown c.args.key.now.key in let p = c.args.self.now.holder.pass.now in let k = c.deref_mut-kept.result.now in let e = c.deref_mut-kept.ensures.value in let f = c.fill_given in
    record {
      row = search rules;
      rows = subst (λ (x : Guarded). Gets key 0 (rows_at p x) (rows_at f.new.holder.pass.now f.new.kept) f.result) e
          (gets_chosen key (rows_at p k) (record (rows_at p k) { slots = c.set.new.self; used = dropped k.shrinker c.in-Some.row }) _ c.in-Some.row
          record { absent = subst (λ (x : Guarded). IsRowOf x.index key None) (sym e) c.requires.absent; chosen = sym c.in-Some.ensures.choice; may = c.in-Some.ensures.safe } c.in-Some.ensures.within
          refl c.in_ok-set.ensures.set refl f.ensures.unused f.ensures.rows f.ensures.unpinned f.result f.ensures.filled);
    }
