use Rattle.std.proofs.Common.{rules}
use Rattle.dc_plain.specs.KeysShown.{key_shown}
use Rattle.dc_rows.proofs.Pinning.{gets_pins}
use Rattle.dc_rows.proofs.calls.pin.Goals as goal

pub returns-clause-pinned : goal.returns-clause-pinned
returns-clause-pinned g c = record {
  once = search rules;
  row = search rules;
  rows = search rules;
  pins = gets_pins (key_shown c.args.key.now.key) _ _ _ (search rules);
}
