use Rattle.std.proofs.Common.{inr, refl}
use Rattle.dc_core.specs.Refusals.{IsEmptyAtLast, MayBeOpened, Needs, Passes}
use Rattle.dc_core.specs.Refusals.Refusal.{Spent}
use Rattle.dc_core.specs.Shown.{state_of}
use Rattle.dc_core.specs.declared.refused.Refused.TheVariants as refusals
use Rattle.dc_core.proofs.Lacking.{tested_map}
use Rattle.dc_core.proofs.Stepped.{last_test, not_false}
use Rattle.dc_core.proofs.state.State.may_be_opened.Goals as goal

pub returns : goal.returns
returns c =
    let s = state_of c.args.self.now in let E : Type 0 = IsEmptyAtLast s c.args.row in let told = c.is_true.ensures.0 (not_false c.is_true.result c.in_ok-refuse.ensures) in
    tested_map (Needs E Spent Passes) (MayBeOpened s c.args.row) ⊥ ⊥ (λ o rest. inr (told, rest)) (λ never. never) c.refuse-2.result
    (last_test E c.is_empty_at_last.result refusals.Spent Spent c.refuse-2.result refl c.refuse-2.ensures c.is_empty_at_last.ensures)
