use Rattle.std.proofs.Common.{◌≡◌, true, false, is_some, ap, sym, ◌∙◌}
use Rattle.std.specs.Option.{option_copied_mut}
use Rattle.dc_store.proofs.Named.{found, redirected}
use Rattle.dc_store.proofs.names.Names.redirect.Goals as goal

pub unreachable-requires : goal.unreachable-requires
unreachable-requires c =
    let there = found c.self.inside.by_name.entries c.self.view_is c.args.name.bytes.now c.new-sought.ensures in
    let clash : false ≡ true = ap is_some (sym (ap option_copied_mut c.in_default.is) ∙ c.get_mut.ensures.value ∙ there) ∙ c.requires in
    cc

pub returns : goal.returns
returns c =
    let there = found c.self.inside.by_name.entries c.self.view_is c.args.name.bytes.now c.new-sought.ensures in
    let written = c.get_mut.follows.holds c.args.number in
    redirected c.self.inside.by_name.entries c.self.view_is c.args.name.bytes.now c.new-sought.ensures c.args.number _ c.self.invariant written.4 (written.3 (ap is_some there ∙ c.requires)).0
