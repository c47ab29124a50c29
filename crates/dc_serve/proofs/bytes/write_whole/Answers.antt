use Rattle.std.proofs.Common.{arith, rules, take}
use Rattle.std.specs.Io.KnownBytes.{Appends}
use Rattle.std.proofs.lemmas.List.{take_rest, length-drop}
use Rattle.dc_serve.proofs.BytesLemmas.{appends_more, front_of}
use Rattle.dc_serve.proofs.bytes.write_whole.Goals as goal

pub writes-preserved : goal.writes-preserved
writes-preserved g c =
    let bound = simp length-drop at (rw take_rest at c.in-Ok.ensures.bound) in
    record { within = omega arith; written = appends_more _ _ _ _ c.writes.done c.in-Ok.count c.writes.invariant.written (rw take_rest at c.in-Ok.ensures.bytes) }

pub returns-in_default-clause-err : goal.returns-in_default-clause-err
returns-in_default-clause-err g c =
    let written : Appends (g.W.Write.contents c.args.writer.now) (g.W.Write.contents c.write.new.self) (take c.writes.done c.args.bytes.now) = search rules in front_of _ _ c.args.bytes.now c.writes.done written

pub returns-then-count-eq0-clause-err : goal.returns-then-count-eq0-clause-err
returns-then-count-eq0-clause-err g c =
    let written : Appends (g.W.Write.contents c.args.writer.now) (g.W.Write.contents c.write.new.self) (take c.writes.done c.args.bytes.now) = search rules in front_of _ _ c.args.bytes.now c.writes.done written
