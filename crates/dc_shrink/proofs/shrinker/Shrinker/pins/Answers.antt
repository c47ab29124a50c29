use Rattle.std.proofs.Common.{ap, sym, ◌∙◌}
use Rattle.std.specs.Option.{unwrap_or}
use Rattle.dc_shrink.specs.Listings.{pins_of}
use Rattle.dc_shrink.proofs.Entries.{get_entries}
use Rattle.dc_shrink.proofs.shrinker.Shrinker.pins.Goals as goal

pub returns-clause-pins : goal.returns-clause-pins
returns-clause-pins c = c.unwrap_or.ensures ∙ ap (λ o. unwrap_or o 0) (c.copied.ensures ∙ c.get.ensures.value ∙ sym (get_entries c.self.inside.pins.entries c.args.row)) ∙ ap (λ s. pins_of s c.args.row) c.self.view_is
