use Rattle.std.proofs.Common.{◌≡◌, ◌++◌, [], map, length, rules, ap, sym, ◌∙◌}
use Rattle.std.proofs.lemmas.List.{append-nil}
use Rattle.std.proofs.lemmas.Map.Iter.{rest_all, rest_so_far}
use Rattle.std.specs.Map.Iter.{deref_pair}
use Rattle.dc_store.proofs.Paged.{ended, stopped}
use Rattle.dc_store.proofs.pages.first_of.Goals as goal

pub returns-then-len-most : goal.returns-then-len-most
returns-then-len-most c =
    let full : length c.loop-name.page.items ≡ c.args.most = search rules in
    let cut : c.args.names ≡ map deref_pair c.loop-name.yielded ++ c.loop-name.name-iterator = search (rules, rest_so_far) in
    stopped c.args.names (map deref_pair c.loop-name.yielded) c.loop-name.page.items c.args.most c.loop-name.invariant.0 c.loop-name.name-iterator full cut

pub returns : goal.returns
returns c =
    let yielded = map deref_pair c.loop-name.yielded in
    let cut : c.args.names ≡ map deref_pair c.loop-name.yielded ++ c.loop-name.name-iterator = search (rules, rest_so_far) in
    let none : c.loop-name.name-iterator ≡ [] = rest_all deref_pair _ _ _ c.in-None.is c.next.ensures.steps in
    ended c.args.names yielded c.loop-name.page.items c.args.most c.loop-name.invariant.0 c.loop-name.invariant.1 (sym (cut ∙ ap (λ l. map deref_pair c.loop-name.yielded ++ l) none ∙ append-nil (map deref_pair c.loop-name.yielded)))
