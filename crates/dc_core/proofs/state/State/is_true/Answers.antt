use Rattle.std.proofs.Common.{ap, option_map, sym, ◌∙◌}
use Rattle.dc_plain.specs.FactsShown.{fact_shown}
use Rattle.dc_core.specs.Shown.{state_of}
use Rattle.dc_core.proofs.Rowed.{with_true}
use Rattle.dc_core.proofs.state.State.is_true.Goals as goal

pub returns-in-Some-fact_of : goal.returns-in-Some-fact_of
returns-in-Some-fact_of c = let fact = sym (ap (option_map fact_shown) c.in-Some-fact_of.is) ∙ c.fact_of.ensures in
    with_true (state_of c.args.self.now) c.args.row c.row.result.now c.decode.result c.in-Some.told c.row.ensures c.in-Some.is c.decode.ensures.any
    (fact_shown c.in-Some-fact_of.fact) c.in-Some.ensures.spelled fact c.holds.result c.holds.ensures
