use Rattle.std.proofs.Common.{to_z-of_z, SFits, w32, rules}
use Rattle.dc_cache.specs.Calls.{look}
use Rattle.dc_hold.specs.Tells.{tells_tried}
use Rattle.dc_c.specs.Answering.{Shows}
use Rattle.dc_hold.specs.Allowed.{MayResolve}
use Rattle.dc_c.proofs.Answering.{called, meant, shown, tried}
use Rattle.dc_c.proofs.looks.gb_try_resolve.Goals as goal

pub returns : goal.returns
returns c =
    let fits : SFits w32 c.tell.result = search rules in
    let call = look c.args.base c.args.path.now c.in-Some.follow in
    let got = c.try_resolve-tried in
    record {
      looks = meant _ c.in-Some.follow _ _ c.in-Some.ensures
          (called (MayResolve call) (λ tried. Shows (tells_tried tried)) c.args.pass.now c.put.new.self _ c.args.found.now c.tell.new.found
          c.in-Some-take.hold.value c.deref_mut.result.now got.new.self got.result c.in-Some-take.ensures.taken c.deref_mut.ensures.value c.put.ensures
          (tried _ _ got.result got.ensures.answered got.ensures.held)
          (shown _ _ _ _ _ c.told_tried.ensures c.tell.ensures (to_z-of_z fits)));
    }
