use Rattle.std.proofs.Common.{to_z-of_z, SFits, w32, rules}
use Rattle.dc_cache.specs.Calls.{list}
use Rattle.dc_hold.specs.Allowed.{MayRead}
use Rattle.dc_c.specs.Shapes.{ShowsNames}
use Rattle.dc_c.proofs.Answering.{called, counted, tried}
use Rattle.dc_c.proofs.looks.gb_try_list.Goals as goal

pub returns : goal.returns
returns c =
    let fits : SFits w32 c.tell.result = search rules in
    let got = c.try_list-tried in
    record {
      lists = called (MayRead (list c.args.base c.args.path.now)) (ShowsNames c.args.names.now) c.args.pass.now c.put.new.self _ (c.args.found.now, c.args.names.now) (c.tell.new.found, c.write_names-told.new.buffer)
          c.in-Some.hold.value c.deref_mut.result.now got.new.self got.result c.in-Some.ensures.taken c.deref_mut.ensures.value c.put.ensures
          (tried _ _ got.result got.ensures.told got.ensures.held)
          (record { read = counted _ _ _ _ _ _ c.told_read-told.ensures c.write_names-told.ensures.all c.tell.ensures (to_z-of_z fits); same = c.write_names-told.ensures.same; names = c.write_names-told.ensures.written });
    }
