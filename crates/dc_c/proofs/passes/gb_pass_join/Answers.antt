use Rattle.std.proofs.Common.{◌∙◌, inr, to_z-of_z, SFits, w32, rules}
use Rattle.dc_hold.specs.Allowed.{MayLearn}
use Rattle.dc_c.specs.Shapes.{ShowsEnd}
use Rattle.dc_c.proofs.Answering.{called}
use Rattle.dc_c.proofs.Opening.{on_hold}
use Rattle.dc_c.proofs.passes.gb_pass_join.Goals as goal

pub returns : goal.returns
returns c =
    let fits : SFits w32 c.number-2.result = search rules in
    let learnt = c.learn in let other = c.in-Some-take in
    record {
      joins = inr (on_hold _ _ c.args.other.now.held.holds other.ended.value other.ensures.taken
          (called (MayLearn 0) ShowsEnd c.args.pass.now c.put-2.new.self _ c.args.other.now.held.holds _
          c.in-Some.hold.value c.deref_mut.result.now learnt.new.self learnt.result c.in-Some.ensures.taken c.deref_mut.ensures.value c.put-2.ensures
          (record { loaded = learnt.ensures.loaded; clock = learnt.ensures.clock; come = learnt.ensures.come }) (to_z-of_z fits ∙ c.number-2.ensures, other.ensures.blank)));
    }
