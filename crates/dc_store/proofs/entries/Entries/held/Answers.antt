use Rattle.std.proofs.Common.{◌≡◌, ap, ◌∙◌, is_some, length, rules}
use Rattle.std.proofs.iter.runs.Made.{chains}
use Rattle.std.specs.BTreeMap.{keys}
use Rattle.std.specs.Prelude.{count_by}
use Rattle.dc_plain.specs.BytesShown.{names_by}
use Rattle.dc_store.specs.Keys.{name_held}
use Rattle.dc_store.proofs.Counted.{held_counted}
use Rattle.dc_store.proofs.entries.Entries.held.Goals as goal

pub returns : goal.returns
returns c =
    let passing : c.count.result ≡ count_by (λ key. is_some (name_held c.args.dir key.items)) (keys c.self.inside.by_key) = search (rules, chains) in
    passing ∙ held_counted c.args.dir c.ranges.dir.fits c.self.inside.by_key.entries c.self.invariant.keys ∙ ap (λ es. length (names_by c.args.dir es)) c.self.view_is
