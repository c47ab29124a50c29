use Rattle.std.proofs.Common.{map, rules, ap, sym, ◌∙◌}
use Rattle.std.proofs.lemmas.Iterator.Adapters.{YieldsList-from_vec}
use Rattle.std.proofs.lemmas.Iterator.Consumers.{YieldsList-end}
use Rattle.dc_store.specs.Pages.{led_shown, told_in}
use Rattle.dc_store.proofs.Counted.{map_twice}
use Rattle.dc_store.proofs.Paged.{unmapped}
use Rattle.dc_store.proofs.slab_store.SlabStore.with_kinds.Goals as goal

pub returns : goal.returns
returns c =
    let end = YieldsList-end (YieldsList-from_vec {s = c.into_iter-name-iterator.result} c.args.leads.items (search rules) (search rules))
    c.loop-name.yielded c.loop-name.name-iterator c.loop-name.yielded_by c.next.result c.next.new.self c.in-None.is c.next.ensures.steps in
    c.loop-name.invariant ∙ map_twice led_shown (told_in c.args.self.now) c.loop-name.yielded ∙ ap (λ leads. map (told_in c.args.self.now) (map led_shown leads)) (sym (unmapped c.loop-name.yielded) ∙ end.0)
