use Rattle.std.proofs.Common.{◌≡◌, map, ap, ◌∙◌, rules}
use Rattle.std.proofs.lemmas.Map.Iter.{iter_end}
use Rattle.std.specs.BTreeMap.{keys}
use Rattle.std.specs.Map.Iter.{deref}
use Rattle.dc_store.proofs.Named.{names_sorted}
use Rattle.dc_store.proofs.names.Names.list.Goals as goal

pub returns-clause-names : goal.returns-clause-names
returns-clause-names c =
    let whole : map deref c.loop-name.yielded ≡ keys c.self.inside.by_name = search (rules, iter_end) in
    c.loop-name.invariant ∙ whole ∙ ap (map (λ e. e.0)) c.self.view_is

pub returns-clause-sorted : goal.returns-clause-sorted
returns-clause-sorted c = names_sorted c.self.inside.by_name.entries c.self.view_is c.self.invariant

pub returns-in_err-to_vec-clause-sorted : goal.returns-in_err-to_vec-clause-sorted
returns-in_err-to_vec-clause-sorted c = names_sorted c.self.inside.by_name.entries c.self.view_is c.self.invariant

pub returns-in_err-push-clause-sorted : goal.returns-in_err-push-clause-sorted
returns-in_err-push-clause-sorted c = names_sorted c.self.inside.by_name.entries c.self.view_is c.self.invariant
