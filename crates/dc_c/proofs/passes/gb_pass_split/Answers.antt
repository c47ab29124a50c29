use Rattle.std.proofs.Common.{◌∙◌, refl, sym, to_z-of_z, SFits, w32, rules}
use Rattle.dc_c.specs.Shapes.{MaySplit, ShowsSplit}
use Rattle.dc_c.proofs.Answering.{called}
use Rattle.dc_c.proofs.Opening.{on_blank, on_open, splits}
use Rattle.dc_c.proofs.passes.gb_pass_split.Goals as goal

pub returns-then-is_open : goal.returns-then-is_open
returns-then-is_open c =
    let fits : SFits w32 c.number.result = search rules in
    record { splits = on_open _ _ c.args.blank.now.held.holds (c.is_open.ensures.held c.if-is_open.true) (λ _. record { same = refl; why = to_z-of_z fits ∙ c.number.ensures; unwritten = c.is_open.ensures.same }) }

pub returns : goal.returns
returns c =
    let fits : SFits w32 c.opened.result = search rules in
    let holds = c.opened.new.blank.held.holds in let cut = c.cut_off-split in
    let put = splits cut.result (λ b. b.value) c.deref_mut.result.now.pass cut.new.hold.pass c.opened.result _ holds cut.ensures.split cut.ensures.fault cut.ensures.same (c.opened.ensures.done, c.opened.ensures.fault) (to_z-of_z fits) in
    record {
      splits = on_blank _ _ c.args.blank.now.held.holds (sym c.is_open.ensures.same ∙ c.is_open.ensures.blank c.if-is_open.false)
          (called MaySplit ShowsSplit c.args.pass.now c.put.new.self _ c.args.blank.now.held.holds holds
          c.in-Some.hold.value c.deref_mut.result.now cut.new.hold holds c.in-Some.ensures.taken c.deref_mut.ensures.value c.put.ensures put.0 put.1);
    }
