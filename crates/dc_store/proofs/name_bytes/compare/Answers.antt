use Rattle.std.proofs.Common.{◌∙◌}
use Rattle.dc_store.proofs.Fronts.{fronts_differ}
use Rattle.dc_store.proofs.name_bytes.compare.Goals as goal

pub returns-in_default : goal.returns-in_default
returns-in_default c =
    c.cmp.ensures ∙ fronts_differ c.args.front c.front.result c.args.bytes.now c.args.key.now c.ranges.front.fits c.front.type_inv c.requires c.front.ensures (λ e. c.in_default.not-Equal (c.cmp.ensures ∙ e))
