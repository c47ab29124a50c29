use Rattle.std.proofs.Common.{to_z-of_z, SFits, w32, rules}
use Rattle.dc_cache.specs.Calls.{stat}
use Rattle.dc_hold.specs.Tells.{tells_tried}
use Rattle.dc_c.specs.Answering.{Shows}
use Rattle.dc_hold.specs.Allowed.{MayLook}
use Rattle.dc_c.proofs.Answering.{called, shown, tried}
use Rattle.dc_c.proofs.looks.gb_try_stat.Goals as goal

pub returns : goal.returns
returns c =
    let fits : SFits w32 c.tell.result = search rules in
    let got = c.try_stat-tried in
    record {
      counts = called (MayLook (stat c.args.base c.args.path.now)) (λ tried. Shows (tells_tried tried)) c.args.pass.now c.put.new.self _ c.args.found.now c.tell.new.found
          c.in-Some.hold.value c.deref_mut.result.now got.new.self got.result c.in-Some.ensures.taken c.deref_mut.ensures.value c.put.ensures
          (tried _ _ got.result got.ensures.answered got.ensures.held)
          (shown _ _ _ _ _ c.told_tried.ensures c.tell.ensures (to_z-of_z fits));
    }
