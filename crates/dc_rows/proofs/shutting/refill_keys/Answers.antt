use Rattle.std.proofs.Common.{rules, length, map, subst, None}
use Rattle.dc_plain.specs.KeysShown.{key_shown}
use Rattle.dc_plain.specs.Trees.{Tree}
use Rattle.dc_index.specs.Hashed.{key_in}
use Rattle.dc_rows.specs.Refills.{Is, Refilled, TurnsIn}
use Rattle.dc_rows.proofs.Refills.{none_less, odd_row, narrow_row}
use Rattle.dc_rows.proofs.Retelling.{refilled_goes}
use Rattle.dc_rows.proofs.Turning.{turned_none, turns_none}
use Rattle.dc_rows.proofs.Turned.{found_still, found_some, nothing_turned, one_turned}
use Rattle.dc_rows.proofs.shutting.refill_keys.Goals as goal

pub loop-i-init : goal.loop-i-init
loop-i-init c = record {
  turned = nothing_turned c.args.holder.now c.args.kept.now (search rules) (turned_none _ c.requires.stage.fit.agree (Refilled c.args.kept.now.store) (map key_shown c.args.keys.now));
  stage = c.requires.stage;
}

pub loop-i-preserved-in_default : goal.loop-i-preserved-in_default
loop-i-preserved-in_default c = let keys = map key_shown c.args.keys.now in let i = c.loop-i.i in let l = c.loop-i.invariant in let k = c.index-rows-i in let goes = refilled_goes c.args.kept.now.store in
    let f = found_still keys i (length c.args.keys.now) goes c.requires.distinct _ _ l.turned.rows c.args.rows.now k.result None c.loop-i-test.true (search rules) c.in_default.is c.requires.found in let missing = f.2.row in record {
      turned = one_turned keys i f.0 f.1 goes c.requires.distinct l.turned (nothing_turned c.loop-i.holder c.loop-i.kept (search rules) (turns_none _ l.stage.fit.agree (Refilled c.args.kept.now.store) f.0 missing));
      stage = none_less _ _ _ _ _ i _ keys f.0 c.loop-i-test.true f.1 l.stage missing;
    }

pub refill_row-requires-clause-row : goal.refill_row-requires-clause-row
refill_row-requires-clause-row c = let k = c.index-rows-i in
    (found_some _ c.loop-i.i _ _ (found_still (map key_shown c.args.keys.now) c.loop-i.i (length c.args.keys.now) (refilled_goes c.args.kept.now.store) c.requires.distinct _ _ c.loop-i.invariant.turned.rows c.args.rows.now k.result _ c.loop-i-test.true (search rules) c.in-Some.is c.requires.found)).1

pub refill_row-requires-clause-odd : goal.refill_row-requires-clause-odd
refill_row-requires-clause-odd c = let k = c.index-rows-i in let s = c.loop-i.invariant.stage in let key = key_in c.in-Some.odd.key in
    let f = found_some _ c.loop-i.i _ _ (found_still (map key_shown c.args.keys.now) c.loop-i.i (length c.args.keys.now) (refilled_goes c.args.kept.now.store) c.requires.distinct _ _ c.loop-i.invariant.turned.rows c.args.rows.now k.result _ c.loop-i-test.true (search rules) c.in-Some.is c.requires.found) in
    record { fit = s.fit; odd = odd_row _ _ _ _ _ c.loop-i.i _ _ key c.loop-i-test.true f.0 s _ f.1; narrow = narrow_row _ _ _ _ _ c.loop-i.i _ _ key c.loop-i-test.true f.0 s _ f.1 }

pub loop-i-preserved : goal.loop-i-preserved
loop-i-preserved c = let keys = map key_shown c.args.keys.now in let i = c.loop-i.i in let l = c.loop-i.invariant in let k = c.index-rows-i in let goes = refilled_goes c.args.kept.now.store in let e = c.refill_row.ensures in let r = c.refill_row.new in
    let f = found_some keys i _ _ (found_still keys i (length c.args.keys.now) goes c.requires.distinct _ _ l.turned.rows c.args.rows.now k.result _ c.loop-i-test.true (search rules) c.in-Some.is c.requires.found) in
    let rows = subst (λ (x : Tree). TurnsIn (Refilled x) (Is (key_in c.in-Some.odd.key)) c.loop-i.holder c.loop-i.kept r.holder r.kept) l.turned.tree.tree e.rows in record {
      turned = one_turned keys i (key_in c.in-Some.odd.key) f.0 goes c.requires.distinct l.turned (record { same_reference = e.same_reference; pass = e.pass; tree = e.tree; rows = rows });
      stage = e.stage keys i (length c.args.keys.now) c.loop-i-test.true f.0 c.requires.distinct l.stage;
    }
