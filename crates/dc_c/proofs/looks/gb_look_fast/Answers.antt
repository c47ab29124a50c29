use Rattle.std.proofs.Common.{to_z-of_z, SFits, w32, rules}
use Rattle.dc_hold.specs.Tells.{tells_fast}
use Rattle.dc_c.specs.Answering.{Shows}
use Rattle.dc_hold.specs.Allowed.{MayFind}
use Rattle.dc_c.proofs.Answering.{called, meant, shown}
use Rattle.dc_c.proofs.looks.gb_look_fast.Goals as goal

pub returns : goal.returns
returns c =
    let fits : SFits w32 c.tell.result = search rules in
    let got = c.look_fast-fast in
    record {
      looks = meant _ c.in-Some.follow _ _ c.in-Some.ensures
          (called (MayFind c.args.base c.args.path.now c.in-Some.follow) (λ fast. Shows (tells_fast fast)) c.args.pass.now c.put.new.self _ c.args.found.now c.tell.new.found
          c.in-Some-take.hold.value c.deref_mut.result.now got.new.self got.result c.in-Some-take.ensures.taken c.deref_mut.ensures.value c.put.ensures
          got.ensures.answered
          (shown _ _ _ _ _ c.told_fast.ensures c.tell.ensures (to_z-of_z fits)));
    }
