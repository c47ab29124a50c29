use Rattle.std.proofs.Common.{rules, arith, map, ◌∙◌, length-set}
use Rattle.dc_plain.specs.KeysShown.{key_shown}
use Rattle.dc_rows.specs.Refills.{Shut}
use Rattle.dc_rows.proofs.Retelling.{shut_goes}
use Rattle.dc_rows.proofs.Shuts.{can_shut}
use Rattle.dc_rows.proofs.Turning.{turned_none}
use Rattle.dc_rows.proofs.Turned.{key_at, nothing_turned, one_turned, found_more}
use Rattle.dc_rows.proofs.shutting.shut_keys.Goals as goal

pub loop-i-init : goal.loop-i-init
loop-i-init c = record {
  turned = nothing_turned c.args.holder.now c.args.kept.now (search rules) (turned_none _ c.requires.stage.fit.agree Shut (map key_shown c.args.keys.now));
  stage = c.requires.stage;
  found = λ j less. absurd (omega arith);
  size = c.requires.places;
}

pub shut_key-requires-clause-even : goal.shut_key-requires-clause-even
shut_key-requires-clause-even c = let k = c.index-keys-i in let here = key_at c.args.keys.now c.loop-i.i k.result (search rules) k.is in
    λ row held. let s = can_shut _ _ _ _ _ c.loop-i.i _ (key_shown k.result) here c.loop-i.invariant.stage c.requires.distinct row held in record { even = s.0; low = s.1 }

pub loop-i-preserved : goal.loop-i-preserved
loop-i-preserved c = let k = c.index-keys-i in let keys = map key_shown c.args.keys.now in let i = c.loop-i.i in let l = c.loop-i.invariant in let e = c.shut_key.ensures in
    let here = key_at c.args.keys.now i k.result (search rules) k.is in record {
      turned = one_turned keys i (key_shown k.result) here shut_goes c.requires.distinct l.turned (record { same_reference = e.same_reference; pass = e.pass; tree = e.tree; rows = e.rows });
      stage = e.stage keys i here l.stage;
      found = found_more keys i (key_shown k.result) here shut_goes c.requires.distinct _ _ e.rows c.loop-i.rows _ (let few = c.requires.few in let at = c.loop-i-test.true in let size = l.size in omega arith) l.found e.found;
      size = length-set c.loop-i.rows i _ ∙ l.size;
    }
