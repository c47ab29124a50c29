use Rattle.std.proofs.Common.{◌≡◌, true, false, ◌∙◌, is_some, ap, sym}
use Rattle.std.specs.Option.{option_copied_mut}
use Rattle.dc_plain.specs.Spots.{spot_at}
use Rattle.dc_store.proofs.Redirected.{entry_found, entry_redirected}
use Rattle.dc_store.proofs.entries.Entries.redirect.Goals as goal

pub unreachable-requires : goal.unreachable-requires
unreachable-requires c =
    let found = entry_found c.self.invariant c.self.view_is (spot_at c.args.dir c.args.name.bytes.now) c.ranges.dir.fits (c.as_slice.ensures ∙ c.new-key.ensures) c.requires in
    let clash : false ≡ true = ap is_some (sym (ap option_copied_mut c.in_default.is) ∙ c.get_mut.ensures.value) ∙ found in
    cc

pub invariant_of-self : goal.invariant_of-self
invariant_of-self c =
    let both = entry_redirected c.self.invariant c.self.view_is (spot_at c.args.dir c.args.name.bytes.now) c.ranges.dir.fits (c.as_slice.ensures ∙ c.new-key.ensures) c.requires c.args.number (c.get_mut.follows.holds c.args.number).0 in both.0

pub returns : goal.returns
returns c =
    let both = entry_redirected c.self.invariant c.self.view_is (spot_at c.args.dir c.args.name.bytes.now) c.ranges.dir.fits (c.as_slice.ensures ∙ c.new-key.ensures) c.requires c.args.number (c.get_mut.follows.holds c.args.number).0 in both.1
