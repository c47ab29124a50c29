use Rattle.std.proofs.Common.{to_z-of_z, SFits, w32, rules}
use Rattle.dc_cache.specs.Calls.{readlink}
use Rattle.dc_hold.specs.Allowed.{MayRead}
use Rattle.dc_c.specs.Shapes.{ShowsText}
use Rattle.dc_c.proofs.Answering.{called, shown, tried}
use Rattle.dc_c.proofs.looks.gb_try_readlink.Goals as goal

pub returns : goal.returns
returns c =
    let fits : SFits w32 c.tell.result = search rules in
    let got = c.try_readlink-tried in
    record {
      reads = called (MayRead (readlink c.args.base c.args.path.now)) (ShowsText c.args.text.now) c.args.pass.now c.put.new.self _ (c.args.found.now, c.args.text.now) (c.tell.new.found, c.write_text.new.buffer)
          c.in-Some.hold.value c.deref_mut.result.now got.new.self got.result c.in-Some.ensures.taken c.deref_mut.ensures.value c.put.ensures
          (tried _ _ got.result got.ensures.told got.ensures.held)
          (record { read = shown _ _ _ _ _ c.told_read.ensures c.tell.ensures (to_z-of_z fits); text = c.write_text.ensures });
    }
