use Rattle.std.proofs.Common.{◌∙◌, ap, to_z-of_z, SFits, w32, rules}
use Rattle.dc_cache.specs.Calls.{request_of}
use Rattle.dc_hold.specs.Tells.{tells_change, tells_gone}
use Rattle.dc_hold.specs.Allowed.{MayTake}
use Rattle.dc_c.specs.Shapes.{ShowsTaken}
use Rattle.dc_c.proofs.Answering.{called, shown, tried}
use Rattle.dc_c.proofs.changes.take.Goals as goal

pub returns : goal.returns
returns c =
    let fits : SFits w32 c.tell.result = search rules in
    let got = c.try_change_telling-tried in
    called (MayTake (request_of c.args.call.now)) ShowsTaken c.args.pass.now c.put.new.self _ (c.args.found.now, c.args.gone.now) (c.tell.new.found, c.told_gone.result)
    c.in-Some.hold.value c.deref_mut.result.now got.new.self got.result c.in-Some.ensures.taken c.deref_mut.ensures.value c.put.ensures
    (tried _ _ got.result got.ensures.made got.ensures.held)
    (record {
      made = shown _ _ _ _ _ (c.told_change.ensures ∙ ap tells_change c.parted-made.ensures.made) c.tell.ensures (to_z-of_z fits);
      gone = c.told_gone.ensures ∙ ap tells_gone c.parted-made.ensures.gone;
    })
