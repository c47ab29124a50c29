use Rattle.std.proofs.Common.{to_z-of_z, SFits, w32, rules}
use Rattle.dc_hold.specs.Allowed.{MayLearn}
use Rattle.dc_c.specs.Shapes.{ShowsClock}
use Rattle.dc_c.proofs.Answering.{called, as_told}
use Rattle.dc_c.proofs.passes.gb_learn.Goals as goal

pub returns : goal.returns
returns c =
    let fits : SFits w32 c.tell_clock.result = search rules in
    let got = c.learn-learnt in
    record {
      learns = called (MayLearn c.args.at) ShowsClock c.args.pass.now c.put.new.self _ c.args.clock.now c.tell_clock.new.clock
          c.in-Some.hold.value c.deref_mut.result.now got.new.self got.result c.in-Some.ensures.taken c.deref_mut.ensures.value c.put.ensures
          (record { loaded = got.ensures.loaded; clock = got.ensures.clock; come = got.ensures.come })
          (as_told (λ n. ShowsClock got.result n c.tell_clock.new.clock) (to_z-of_z fits) c.tell_clock.ensures);
    }
