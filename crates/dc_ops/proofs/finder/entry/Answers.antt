use Rattle.std.proofs.Common.{option_map, ap, sym, ◌∙◌}
use Rattle.dc_plain.specs.Facts.{Target}
use Rattle.dc_plain.specs.Spots.{spot_at}
use Rattle.dc_ops.proofs.Goes.{named_by, unheld}
use Rattle.dc_ops.proofs.finder.entry.Goals as goal

pub returns-clause-named : goal.returns-clause-named
returns-clause-named g c = named_by (spot_at c.args.dir c.args.name.bytes.now) _ (g.S.Store.tree c.args.store.now).entries (sym c.in_ok-number.ensures.target)

pub returns-in_err-kind-clause-target : goal.returns-in_err-kind-clause-target
returns-in_err-kind-clause-target g c =
    let t = g.S.Store.tree c.args.store.now in
    let nothing = unheld t (spot_at c.args.dir c.args.name.bytes.now) _ (sym c.in_ok-number.ensures.target) c.in_err-kind.ensures.kind in
    ap (option_map (λ (target : Target). target.0)) c.from_residual-in_err-kind.ensures ∙ sym (c.names_lead_to_the_living.ensures.nowhere t c.args.dir c.args.name.bytes.now c.kind.ensures.well nothing)
