use Rattle.std.proofs.Common.{None, subst}
use Rattle.dc_plain.specs.KeysShown.{key_shown}
use Rattle.dc_plain.specs.declared.key.Key as rust_key
use Rattle.dc_index.specs.Slots.{IsRowOf}
use Rattle.dc_rows.specs.Refills.{Shut}
use Rattle.dc_rows.proofs.Turning.{turns_none}
use Rattle.dc_rows.proofs.shutting.shut_key.Goals as goal

pub returns-in_err-row-clause-rows : goal.returns-in_err-row-clause-rows
returns-in_err-row-clause-rows c = turns_none _ c.requires.fit.agree Shut (key_shown c.args.key)
    (subst (λ (k : rust_key.Key). IsRowOf c.args.kept.now.index (key_shown k) None) c.new-key.ensures c.in_err-row.ensures.row)
