use Rattle.std.proofs.Common.{◌∙◌, sym, to_z-of_z, SFits, w32, rules}
use Rattle.dc_c.proofs.Opening.{on_blank, on_open, opens}
use Rattle.dc_c.proofs.passes.gb_cache_with_names.Goals as goal

pub returns-then-is_open : goal.returns-then-is_open
returns-then-is_open c =
    let fits : SFits w32 c.number.result = search rules in
    record { begins = on_open _ _ c.args.blank.now.held.holds (c.is_open.ensures.held c.if-is_open.true) (λ _. (c.is_open.ensures.same, to_z-of_z fits ∙ c.number.ensures)) }

pub returns : goal.returns
returns c =
    let fits : SFits w32 c.opened.result = search rules in
    record {
      begins = on_blank _ _ c.args.blank.now.held.holds (sym c.is_open.ensures.same ∙ c.is_open.ensures.blank c.if-is_open.false)
          (opens c.begun.result (λ b. b.value) _ _ c.opened.result _ c.opened.new.blank.held.holds c.begun.ensures.first c.begun.ensures.fault (c.opened.ensures.done, c.opened.ensures.fault) (to_z-of_z fits));
    }
