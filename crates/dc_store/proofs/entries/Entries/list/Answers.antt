use Rattle.std.proofs.Common.{◌≡◌, ℕ, map, ap, ◌∙◌, rules}
use Rattle.std.proofs.lemmas.Map.Iter.{iter_end}
use Rattle.std.specs.Global.{Vec}
use Rattle.std.specs.Map.Iter.{deref}
use Rattle.std.specs.BTreeMap.{keys}
use Rattle.dc_plain.specs.BytesShown.{names_by}
use Rattle.dc_store.specs.Keys.{names_held}
use Rattle.dc_store.proofs.Counted.{one_more, map_twice, names_listed}
use Rattle.dc_store.proofs.entries.Entries.list.Goals as goal

pub loop-key-preserved : goal.loop-key-preserved
loop-key-preserved c = one_more (λ key. key.now.items) _ c.args.dir _ _ c.loop-key.yielded c.in-Some.key c.in_ok-push_name.ensures c.deref.ensures.value c.loop-key.invariant

pub returns : goal.returns
returns c =
    let whole : map deref c.loop-key.yielded ≡ keys c.self.inside.by_key = search (rules, iter_end) in
    c.loop-key.invariant ∙ ap (names_held c.args.dir) (map_twice deref (λ (k : Vec ℕ). k.items) c.loop-key.yielded ∙ ap (map (λ (k : Vec ℕ). k.items)) whole)
    ∙ names_listed c.args.dir c.ranges.dir.fits c.self.inside.by_key.entries c.self.invariant.keys ∙ ap (names_by c.args.dir) c.self.view_is
