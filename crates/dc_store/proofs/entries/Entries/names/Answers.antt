use Rattle.std.proofs.Common.{◌≡◌, ℕ, ◌==◌, ap, ◌∙◌, rules}
use Rattle.std.proofs.iter.runs.Made.{chains}
use Rattle.std.specs.BTreeMap.{values}
use Rattle.std.specs.Prelude.{count_by}
use Rattle.dc_plain.specs.Trees.{how_many}
use Rattle.dc_store.proofs.Counted.{names_counted}
use Rattle.dc_store.proofs.entries.Entries.names.Goals as goal

pub returns : goal.returns
returns c =
    let passing : c.count.result ≡ count_by (λ (n : ℕ). n == c.args.number) (values c.self.inside.by_key) = search (rules, chains) in
    passing ∙ names_counted c.args.number c.self.inside.by_key.entries ∙ ap (how_many _) c.self.view_is
