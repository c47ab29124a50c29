use Rattle.std.proofs.Common.{◌↔◌, ◌%◌, IsTrue, option_map, ap, sym, ◌∙◌}
use Rattle.dc_plain.specs.Facts.{key_of}
use Rattle.dc_plain.specs.FactsShown.{fact_shown}
use Rattle.dc_plain.specs.Requests.{request_of}
use Rattle.dc_plain.specs.Runs.{Touches}
use Rattle.dc_core.specs.Refusals.{IsTouched}
use Rattle.dc_core.specs.Shown.{state_of}
use Rattle.dc_core.proofs.Rowed.{with_fact, without_fact, if_ok}
use Rattle.dc_core.proofs.state.State.is_touched.Goals as goal

pub returns-in-Some-fact_of : goal.returns-in-Some-fact_of
returns-in-Some-fact_of c = let s = state_of c.args.self.now in let call = request_of c.args.call.now in let f = fact_shown c.in-Some-fact_of.fact in
    if_ok c.touches.result (λ b. IsTrue b ↔ Touches s.limit s.tree call (key_of f)) (λ b. IsTrue b ↔ IsTouched s call c.args.row)
    (with_fact s call c.args.row c.row.result.now c.decode.result c.in-Some.told c.row.ensures c.in-Some.is c.decode.ensures.any f (λ h. c.if-count-eq1.false (ap (λ n. n % 2) c.count.ensures ∙ h)) c.in-Some.ensures.spelled (sym (ap (option_map fact_shown) c.in-Some-fact_of.is) ∙ c.fact_of.ensures)) c.touches.ensures

pub returns-in-None : goal.returns-in-None
returns-in-None c =
    without_fact (state_of c.args.self.now) (request_of c.args.call.now) c.args.row c.row.result.now c.decode.result c.in-Some.told c.row.ensures c.in-Some.is c.decode.ensures.any (sym c.fact_of.ensures ∙ ap (option_map fact_shown) c.in-None.is)
