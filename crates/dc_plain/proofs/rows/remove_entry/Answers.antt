use Rattle.std.proofs.Common.{not, map, ap, ◌∙◌, rules}
use Rattle.std.proofs.lemmas.Fn.{filter_same}
use Rattle.std.specs.Ordering.{eq_by_cmp}
use Rattle.dc_plain.specs.Plain.{entry_shown}
use Rattle.dc_plain.specs.Trees.{Spot, spot_cmp}
use Rattle.dc_plain.proofs.PassingRows.{filter-map}
use Rattle.dc_plain.proofs.rows.remove_entry.Goals as goal

pub returns-clause-rows : goal.returns-clause-rows
returns-clause-rows c =
    let spot : Spot = record { dir = c.args.dir; name = c.args.name.now } in
    ap (map entry_shown) (filter_same _ (λ e. not (eq_by_cmp spot_cmp spot (entry_shown e).0)) _ (λ x b f' k. search rules) _ _ c.retain.ensures.filtered)
    ∙ filter-map (λ e. not (eq_by_cmp spot_cmp spot e.0)) entry_shown c.args.entries.now.items
