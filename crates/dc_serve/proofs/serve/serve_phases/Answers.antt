use Rattle.std.proofs.Common.{◌≡◌, [], arith, rules}
use Rattle.std.proofs.lemmas.List.{nil_from_length}
use Rattle.std.specs.Io.KnownBytes.{Appends}
use Rattle.dc_cache.specs.Passes.{known, share}
use Rattle.dc_lang.specs.Phases.{ordered}
use Rattle.dc_names.specs.declared.limits.TheConstants.{SESSIONS}
use Rattle.dc_serve.specs.Bytes.{IsServiceFault, WritesFront, bytes_of}
use Rattle.dc_serve.specs.Served.{ObeysBelow}
use Rattle.dc_serve.specs.Threads.{book}
use Rattle.dc_serve.proofs.Rounds.{IsNext, Phase, part_fails, part_more, part_none, part_stops}
use Rattle.dc_serve.proofs.serve.serve_phases.Goals as goal

pub returns-in-Err-clause-err : goal.returns-in-Err-clause-err
returns-in-Err-clause-err g c =
    let fault : IsServiceFault (book c.serve_phase-next.result.0).seen c.in-Err.fault = search rules in
    let next : IsNext c.args.phases.now c.loop-lines.lines-index c.lines-item.result = record { within = search (rules, arith); is = c.lines-item.is } in
    let phase : Phase (known c.loop-lines.pass) (known c.serve_phase-next.result.0) (ordered c.lines-item.result.now) = record { same = c.serve_phase-next.ensures.pass.1; took = c.serve_phase-next.ensures.took_in } in
    part_stops _ _ _ _ _ _ _ _ _ c.in-Err.fault next c.loop-lines.invariant.goes phase fault

pub returns-in-Err-write_texts-clause-err : goal.returns-in-Err-write_texts-clause-err
returns-in-Err-write_texts-clause-err g c =
    let obeyed : ObeysBelow SESSIONS c.lines-item.result.now c.loop-lines.bases c.loop-lines.pass c.serve_phase-next.result.0 c.in-Ok.replies = search rules in
    let fails : WritesFront (g.W.Write.contents c.loop-lines.writer) (g.W.Write.contents c.write_texts.new.writer) (bytes_of c.in-Ok.replies.texts.items) c.in-Err-write_texts.fault = search rules in
    let next : IsNext c.args.phases.now c.loop-lines.lines-index c.lines-item.result = record { within = search (rules, arith); is = c.lines-item.is } in
    let phase : Phase (known c.loop-lines.pass) (known c.serve_phase-next.result.0) (ordered c.lines-item.result.now) = record { same = c.serve_phase-next.ensures.pass.1; took = c.serve_phase-next.ensures.took_in } in
    part_fails (share c.args.pass).limit _ c.in-Ok.replies.bases c.args.phases.now _ c.lines-item.result _ _ (g.W.Write.contents c.write_texts.new.writer) _ _ (bytes_of c.in-Ok.replies.texts.items) c.in-Err-write_texts.fault next c.loop-lines.invariant.goes phase obeyed fails

pub loop-lines-preserved : goal.loop-lines-preserved
loop-lines-preserved g c =
    let obeyed : ObeysBelow SESSIONS c.lines-item.result.now c.loop-lines.bases c.loop-lines.pass c.serve_phase-next.result.0 c.in-Ok.replies = search rules in
    let wrote : Appends (g.W.Write.contents c.loop-lines.writer) (g.W.Write.contents c.write_texts.new.writer) (bytes_of c.in-Ok.replies.texts.items) = search rules in
    let next : IsNext c.args.phases.now c.loop-lines.lines-index c.lines-item.result = record { within = search (rules, arith); is = c.lines-item.is } in
    let phase : Phase (known c.loop-lines.pass) (known c.serve_phase-next.result.0) (ordered c.lines-item.result.now) = record { same = c.serve_phase-next.ensures.pass.1; took = c.serve_phase-next.ensures.took_in } in
    let goes = part_more (share c.args.pass).limit _ c.in-Ok.replies.bases c.args.phases.now _ c.lines-item.result _ _ (g.W.Write.contents c.write_texts.new.writer) _ _ (bytes_of c.in-Ok.replies.texts.items) next c.loop-lines.invariant.goes phase obeyed wrote in
    record { fits = c.serve_phase-next.ensures.pass.0; goes = goes }

pub loop-lines-preserved-then-is_empty : goal.loop-lines-preserved-then-is_empty
loop-lines-preserved-then-is_empty g c =
    let none : c.lines-item.result.now ≡ [] = nil_from_length c.lines-item.result.now (search (rules, arith)) in
    let next : IsNext c.args.phases.now c.loop-lines.lines-index c.lines-item.result = record { within = search (rules, arith); is = c.lines-item.is } in
    let goes = part_none (share c.args.pass).limit c.loop-lines.bases c.args.phases.now c.loop-lines.lines-index c.lines-item.result (g.W.Write.contents c.args.writer.now) (g.W.Write.contents c.loop-lines.writer) (known c.loop-lines.pass) next none c.loop-lines.invariant.goes in
    record { fits = c.loop-lines.invariant.fits; goes = goes }
