use Rattle.std.proofs.Common.{to_z-of_z, SFits, w32, rules}
use Rattle.dc_hold.specs.Allowed.{MayReadFast}
use Rattle.dc_hold.specs.Tells.{tells_link}
use Rattle.dc_c.specs.Answering.{Shows}
use Rattle.dc_c.proofs.Answering.{called, shown}
use Rattle.dc_c.proofs.looks.gb_readlink_fast.Goals as goal

pub returns : goal.returns
returns c =
    let fits : SFits w32 c.tell.result = search rules in
    let got = c.readlink_fast-fast in
    record {
      reads = called (MayReadFast c.args.base c.args.path.now) (λ fast. Shows (tells_link fast)) c.args.pass.now c.put.new.self _ c.args.found.now c.tell.new.found
          c.in-Some.hold.value c.deref_mut.result.now got.new.self got.result c.in-Some.ensures.taken c.deref_mut.ensures.value c.put.ensures
          got.ensures.told
          (shown _ _ _ _ _ c.told_link.ensures c.tell.ensures (to_z-of_z fits));
    }
